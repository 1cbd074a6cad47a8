use Rattle.std.proofs.Common.{inr}
use Rattle.cn_app.specs.Commands.Show.{HasShowObjectReport}
use Rattle.cn_app.proofs.CommandLemmas.Reports.{reported}
use Rattle.cn_app.proofs.commands.of_objects.show_object.Goals as goal

pub returns-clause-shown : goal.returns-clause-shown
returns-clause-shown g c =
    reported g.W.Write.contents
    (HasShowObjectReport c.read_served_plan.new.table c.read_served_plan.new.certificate c.read_served_plan.new.object c.args.start.now c.args.style.now)
    c.args.output.now c.report.new.self c.show_object_report.result c.report.result
    (inr (c.in_ok-served.served, c.in_ok-served.ensures.served, c.show_object_report.ensures)) c.report.ensures
