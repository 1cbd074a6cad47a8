use Rattle.std.proofs.lemmas.Result.{IfOk-weaker}
use Rattle.cn_words.proofs.CommandLemmas.{argument_more}
use Rattle.cn_words.proofs.words.why.Goals as goal

pub returns : goal.returns
returns c =
    let with_file = argument_more _ c.with_argument-command.result _ _ _ c.bare_command-command.ensures c.table_word.ensures c.with_argument-command.ensures in
    let with_limit = argument_more _ c.with_argument-command-2.result _ _ _ with_file c.limit.ensures c.with_argument-command-2.ensures in
    let with_stocks = argument_more _ c.with_argument-command-3.result _ _ _ with_limit c.flag.ensures c.with_argument-command-3.ensures in
    let with_recoverable = argument_more _ c.with_argument-command-4.result _ _ _ with_stocks c.flag-2.ensures c.with_argument-command-4.ensures in
    let with_unread = argument_more _ c.with_argument-command-5.result _ _ _ with_recoverable c.flag-3.ensures c.with_argument-command-5.ensures in
    let with_all = argument_more _ c.with_argument-command-6.result _ _ _ with_unread c.all.ensures c.with_argument-command-6.ensures in
    IfOk-weaker c.with_argument.result _ _ (λ new is. (c.form.ensures.0, c.form.ensures.1, is))
    (argument_more _ c.with_argument.result _ _ _ with_all c.form.ensures.2 c.with_argument.ensures)
