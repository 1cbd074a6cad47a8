use Rattle.std.proofs.Common.{inr}
use Rattle.cn_app.specs.Commands.FindShortest.{HasFindShortestReport}
use Rattle.cn_app.proofs.CommandLemmas.Reports.{reported}
use Rattle.cn_app.proofs.commands.of_plan_certificates.find_shortest.Goals as goal

pub returns-clause-found : goal.returns-clause-found
returns-clause-found g c =
    reported g.W.Write.contents (HasFindShortestReport c.read_table.new.text c.args.processes) c.args.output.now c.report.new.self c.find_shortest_report.result c.report.result
    (inr (c.in_ok-table.table, c.in_ok-table.ensures.table, c.find_shortest_report.ensures)) c.report.ensures
