use Rattle.std.proofs.Common.{inr}
use Rattle.cn_app.specs.Commands.ShowShortest.{HasShowShortestReport}
use Rattle.cn_app.proofs.CommandLemmas.Reports.{reported}
use Rattle.cn_app.proofs.commands.of_shortest_plans.show_shortest.Goals as goal

pub returns-clause-shown : goal.returns-clause-shown
returns-clause-shown g c =
    reported g.W.Write.contents (HasShowShortestReport c.read_table.new.text c.args.asked c.args.style.now) c.args.output.now c.report.new.self c.show_shortest_report.result c.report.result
    (inr (c.in_ok-table.table, c.in_ok-table.ensures.table, c.show_shortest_report.ensures)) c.report.ensures
