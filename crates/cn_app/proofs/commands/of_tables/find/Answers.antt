use Rattle.std.proofs.Common.{inr}
use Rattle.cn_app.specs.Commands.Find.{HasFindReport}
use Rattle.cn_app.proofs.CommandLemmas.Reports.{reported}
use Rattle.cn_app.proofs.commands.of_tables.find.Goals as goal

pub returns-clause-found : goal.returns-clause-found
returns-clause-found g c =
    reported g.W.Write.contents (HasFindReport c.read_table.new.text c.args.limit) c.args.output.now c.report.new.self c.find_report.result c.report.result
    (inr (c.in_ok-table.table, c.in_ok-table.ensures.table, (c.limit_for-limit.result, c.limit_for-limit.ensures, c.find_report.ensures))) c.report.ensures
