use Rattle.std.proofs.Common.{rules}
use Rattle.cn_unread_check.specs.Bounds.{bounds_of}
use Rattle.cn_unread_number.specs.Bounds.{HasUnreadNumber}
use Rattle.cn_app.proofs.reports.check_unread.ok_unread_report.Goals as goal

pub returns : goal.returns
returns c = λ t certificate right.
    let number : HasUnreadNumber t (bounds_of certificate.at_least certificate.at_most) = c.accepted_bounds_hold.ensures t certificate right in
    search rules
