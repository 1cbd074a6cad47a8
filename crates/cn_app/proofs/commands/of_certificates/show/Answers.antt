use Rattle.std.proofs.Common.{inr}
use Rattle.cn_app.specs.Commands.Show.{HasShowReport}
use Rattle.cn_app.proofs.CommandLemmas.Reports.{reported}
use Rattle.cn_app.proofs.commands.of_certificates.show.Goals as goal

pub returns-clause-shown : goal.returns-clause-shown
returns-clause-shown g c =
    reported g.W.Write.contents (HasShowReport c.read_checked.new.table c.read_checked.new.certificate c.args.style.now) c.args.output.now c.report.new.self c.show_report.result c.report.result
    (inr (c.in_ok-checked.checked, c.in_ok-checked.ensures.checked, c.show_report.ensures)) c.report.ensures
