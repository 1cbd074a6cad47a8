use Rattle.std.proofs.Common.{inr}
use Rattle.cn_app.specs.Commands.Draw.{HasDrawReport}
use Rattle.cn_app.proofs.CommandLemmas.Reports.{reported}
use Rattle.cn_app.proofs.commands.of_tables.draw.Goals as goal

pub returns-clause-drawn : goal.returns-clause-drawn
returns-clause-drawn g c =
    reported g.W.Write.contents (HasDrawReport c.read_table.new.text) c.args.output.now c.report.new.self c.draw_report.result c.report.result
    (inr (c.in_ok-table.table, c.in_ok-table.ensures.table, c.draw_report.ensures)) c.report.ensures
