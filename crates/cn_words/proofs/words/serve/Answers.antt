use Rattle.std.proofs.lemmas.Result.{IfOk-weaker}
use Rattle.cn_words.proofs.CommandLemmas.{argument_more, table_more}
use Rattle.cn_words.proofs.words.serve.Goals as goal

pub returns : goal.returns
returns c =
    let with_last = argument_more _ c.with_argument-command.result _ _ _ c.with_object-command.ensures c.required_word.ensures c.with_argument-command.ensures in
    let with_form = argument_more _ c.with_argument-command-2.result _ _ _ with_last c.form.ensures.2 c.with_argument-command-2.ensures in
    IfOk-weaker c.with_table.result _ _ (λ new is. (c.form.ensures.0, c.form.ensures.1, is))
    (table_more _ c.with_table.result _ with_form c.with_table.ensures)
