use Rattle.std.proofs.Common.{◌≡◌, ◌⊎◌, Err, ap, inl, inr, refl}
use Rattle.std.proofs.lemmas.Result.{err_from_is_err_and}
use Rattle.cn_table.specs.TypeTable.{TypeTable}
use Rattle.cn_stock_cert.specs.Certificate.{StockCertificate}
use Rattle.cn_stock_check.specs.Faults.{IsFirstFault}
use Rattle.cn_stock_check.specs.declared.fault.StockCheckFault.{StockCheckFault}
use Rattle.cn_stock_check.specs.declared.fault.StockCheckFault.TheVariants.{OutOfMemory}
use Rattle.cn_io.specs.FaultText.{plain_of}
use Rattle.cn_io.specs.Texts.Stocks.{GivesStockCheck}
use Rattle.cn_io.specs.declared.fault.AppFault.TheVariants.{StockCheck}
use Rattle.cn_io.proofs.readers.stocks.read_right_stock_certificate.Goals as goal

-- a fault of the check
refused : (t : TypeTable) (c : StockCertificate) (fault : StockCheckFault) → (fault ≡ OutOfMemory) ⊎ IsFirstFault t c fault → GivesStockCheck t c (Err (plain_of (StockCheck fault)))
refused t c fault (inl none) = inl (ap (λ (f : StockCheckFault). plain_of (StockCheck f)) none)
refused t c fault (inr first) = inr (fault, first, refl)

pub returns-in_err-check_stocks-clause-right : goal.returns-in_err-check_stocks-clause-right
returns-in_err-check_stocks-clause-right g c =
    let p = err_from_is_err_and c.from_residual-in_err-check_stocks.result c.from_residual-in_err-check_stocks.ensures.1 in
    let certificate = c.in_ok-certificate.certificate in
    rw (p.1, p.2) (inr (certificate, c.in_ok-certificate.ensures.certificate, refused c.args.table.now certificate c.in_err-check_stocks.field-0.0 c.in_err-check_stocks.ensures.refused))
