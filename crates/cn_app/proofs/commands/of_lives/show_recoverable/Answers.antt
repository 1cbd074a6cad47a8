use Rattle.std.proofs.Common.{inr}
use Rattle.cn_app.specs.Commands.ShowRecoverable.{HasShowRecoverableReport}
use Rattle.cn_app.proofs.CommandLemmas.Reports.{reported}
use Rattle.cn_app.proofs.commands.of_lives.show_recoverable.Goals as goal

pub returns-clause-shown : goal.returns-clause-shown
returns-clause-shown g c =
    reported g.W.Write.contents (HasShowRecoverableReport c.read_table.new.text c.args.processes c.args.form) c.args.output.now c.report.new.self c.show_recoverable_report.result c.report.result
    (inr (c.in_ok-table.table, c.in_ok-table.ensures.table, c.show_recoverable_report.ensures)) c.report.ensures
