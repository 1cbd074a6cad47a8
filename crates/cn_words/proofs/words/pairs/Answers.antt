use Rattle.std.proofs.lemmas.Result.{IfOk-weaker}
use Rattle.cn_words.proofs.CommandLemmas.{argument_more}
use Rattle.cn_words.proofs.words.pairs.Goals as goal

pub returns : goal.returns
returns c =
    IfOk-weaker c.with_argument.result _ _ (λ new is. (c.form.ensures.0, c.form.ensures.1, is))
    (argument_more _ c.with_argument.result _ _ _
    (argument_more _ c.with_argument-command.result _ _ _ c.bare_command-command.ensures c.table_word.ensures c.with_argument-command.ensures)
    c.form.ensures.2 c.with_argument.ensures)
