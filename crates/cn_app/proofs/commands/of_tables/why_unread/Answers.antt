use Rattle.std.proofs.Common.{inr}
use Rattle.cn_app.specs.Commands.WhyUnread.{HasWhyUnreadReport}
use Rattle.cn_app.proofs.CommandLemmas.Reports.{reported}
use Rattle.cn_app.proofs.commands.of_tables.why_unread.Goals as goal

pub returns-clause-told : goal.returns-clause-told
returns-clause-told g c =
    reported g.W.Write.contents (λ r. HasWhyUnreadReport c.read_table.new.text c.args.all c.args.form r) c.args.output.now c.report.new.self c.why_unread_report.result c.report.result
    (inr (c.in_ok-table.table, c.in_ok-table.ensures.table, c.why_unread_report.ensures)) c.report.ensures
