use Rattle.std.proofs.Common.{rules}
use Rattle.cn_stock_cert.specs.Right.{AreBounds}
use Rattle.cn_app.proofs.reports.check_stocks.ok_stock_report.Goals as goal

pub returns : goal.returns
returns c = λ t certificate right.
    let bounds : AreBounds t certificate.at_least certificate.at_most = c.right_bounds_hold.ensures t certificate right in
    search rules
