use Rattle.std.proofs.Common.{ℕ, ◌≡◌, Bool, Err, None, Ok, Option, Result, inl}
use Rattle.cn_table.specs.TypeTable.{TypeTable}
use Rattle.cn_stock_cert.specs.Certificate.{StockCertificate}
use Rattle.cn_stock_find.specs.Found.{IsFoundCertificate, limit_fault}
use Rattle.cn_io.specs.declared.fault.AppFault.{AppFault}
use Rattle.cn_io.specs.declared.report.Report.{Report}
use Rattle.cn_app.specs.Commands.ExplainStocks.{IsExplainStocksReport}
use Rattle.cn_app.specs.Commands.WhyStocks.{IsWhyStocksReport}
use Rattle.cn_app.proofs.reports.why_stocks.why_stocks_report.Goals as goal

-- the explanation of a certificate that was found
told : (t : TypeTable) (limit : Option ℕ) (all : Bool) (c : StockCertificate) (r : Result Report AppFault) → limit_fault limit ≡ None → IsFoundCertificate t limit c
    → IsExplainStocksReport t c all r → IsWhyStocksReport t limit all r
told t limit all c (Ok report) searched found is =
    (record { searched = searched; certificate = c; found = found; bounds = is.0; told = is.1 }, is.2)
told t limit all c (Err e) searched found is = inl is

pub explain_stocks_report-requires : goal.explain_stocks_report-requires
explain_stocks_report-requires g c = c.in_ok-certificate.ensures.certificate.right

pub returns : goal.returns
returns g c =
    told c.args.table.now c.args.limit c.args.all c.in_ok-certificate.certificate c.explain_stocks_report.result
    c.in_ok-certificate.ensures.searched c.in_ok-certificate.ensures.certificate c.explain_stocks_report.ensures
