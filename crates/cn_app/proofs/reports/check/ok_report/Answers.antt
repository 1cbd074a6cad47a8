use Rattle.std.proofs.Common.{rules}
use Rattle.cn_app.specs.Commands.Check.{HasItsNumber}
use Rattle.cn_app.proofs.reports.check.ok_report.Goals as goal

pub returns : goal.returns
returns c = λ checked accepted.
    let number : HasItsNumber checked = c.accepted_is_right.ensures.number checked.table checked.certificate accepted in
    search rules
