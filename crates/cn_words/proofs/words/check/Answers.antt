use Rattle.std.proofs.lemmas.Result.{IfOk-weaker}
use Rattle.cn_words.proofs.CommandLemmas.{argument_more, table_more}
use Rattle.cn_words.proofs.words.check.Goals as goal

pub returns : goal.returns
returns c =
    let with_stocks = argument_more _ c.with_argument-command.result _ _ _ c.with_certificate-command.ensures c.flag.ensures c.with_argument-command.ensures in
    let with_unread = argument_more _ c.with_argument-command-2.result _ _ _ with_stocks c.flag-2.ensures c.with_argument-command-2.ensures in
    let with_shortest = argument_more _ c.with_argument-command-3.result _ _ _ with_unread c.flag-3.ensures c.with_argument-command-3.ensures in
    IfOk-weaker c.with_table.result _ _ (λ new is. (c.form.ensures.0, c.form.ensures.1, is))
    (table_more _ c.with_table.result _
    (argument_more _ c.with_argument-command-4.result _ _ _ with_shortest c.form.ensures.2 c.with_argument-command-4.ensures)
    c.with_table.ensures)
