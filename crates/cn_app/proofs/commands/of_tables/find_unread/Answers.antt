use Rattle.std.proofs.Common.{inr}
use Rattle.cn_app.specs.Commands.FindUnread.{HasFindUnreadReport}
use Rattle.cn_app.proofs.CommandLemmas.Reports.{reported}
use Rattle.cn_app.proofs.commands.of_tables.find_unread.Goals as goal

pub returns-clause-found : goal.returns-clause-found
returns-clause-found g c =
    reported g.W.Write.contents (λ r. HasFindUnreadReport c.read_table.new.text r) c.args.output.now c.report.new.self c.find_unread_report.result c.report.result
    (inr (c.in_ok-table.table, c.in_ok-table.ensures.table, c.find_unread_report.ensures)) c.report.ensures
