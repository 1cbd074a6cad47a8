use Rattle.std.proofs.lemmas.Result.{IfOk-weaker}
use Rattle.cn_words.proofs.CommandLemmas.{argument_more}
use Rattle.cn_words.proofs.words.changes.Goals as goal

pub returns : goal.returns
returns c =
    let with_file = argument_more _ c.with_argument-command.result _ _ _ c.bare_command-command.ensures c.table_word.ensures c.with_argument-command.ensures in
    let with_recoverable = argument_more _ c.with_argument-command-2.result _ _ _ with_file c.flag.ensures c.with_argument-command-2.ensures in
    let with_unread = argument_more _ c.with_argument-command-3.result _ _ _ with_recoverable c.flag-2.ensures c.with_argument-command-3.ensures in
    let with_pairs = argument_more _ c.with_argument-command-4.result _ _ _ with_unread c.flag-3.ensures c.with_argument-command-4.ensures in
    IfOk-weaker c.with_argument.result _ _ (λ new is. (c.form.ensures.0, c.form.ensures.1, is))
    (argument_more _ c.with_argument.result _ _ _ with_pairs c.form.ensures.2 c.with_argument.ensures)
