use Rattle.std.proofs.Common.{inr}
use Rattle.cn_app.specs.Commands.Changes.{HasChangesReport}
use Rattle.cn_app.proofs.CommandLemmas.Reports.{reported}
use Rattle.cn_app.proofs.commands.of_tables.changes.Goals as goal

pub returns-clause-told : goal.returns-clause-told
returns-clause-told g c =
    reported g.W.Write.contents (λ r. HasChangesReport c.read_table.new.text c.args.asked r) c.args.output.now c.report.new.self c.changes_report.result c.report.result
    (inr (c.in_ok-table.table, c.in_ok-table.ensures.table, c.changes_report.ensures)) c.report.ensures
