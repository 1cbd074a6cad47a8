use Rattle.cn_words.proofs.CommandLemmas.{argument_more, table_more}
use Rattle.cn_words.proofs.words.find.Goals as goal

pub returns : goal.returns
returns c =
    let with_limit = argument_more _ c.with_argument-command.result _ _ _ c.bare_command-command.ensures c.limit.ensures c.with_argument-command.ensures in
    let with_stocks = argument_more _ c.with_argument-command-2.result _ _ _ with_limit c.flag.ensures c.with_argument-command-2.ensures in
    let with_unread = argument_more _ c.with_argument-command-3.result _ _ _ with_stocks c.flag-2.ensures c.with_argument-command-3.ensures in
    let with_shortest = argument_more _ c.with_argument-command-4.result _ _ _ with_unread c.flag-3.ensures c.with_argument-command-4.ensures in
    table_more _ c.with_table.result _
    (argument_more _ c.with_argument-command-5.result _ _ _ with_shortest c.processes.ensures c.with_argument-command-5.ensures)
    c.with_table.ensures
