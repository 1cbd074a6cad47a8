-- What `explain --stocks` writes: a function of the table and the certificate that it reads.
use Rattle.std.specs.Prelude.{◌≡◌, Bool, Result, Ok, Err, string_bytes}
use Rattle.cn_table.specs.TypeTable.{TypeTable}
use Rattle.cn_stock_cert.specs.Certificate.{StockCertificate}
use Rattle.cn_stock_cert.specs.Right.{AreBounds}
use Rattle.cn_stock_text.specs.Explanation.{stock_explanation}
use Rattle.cn_io.specs.Steps.{Then}
use Rattle.cn_io.specs.Texts.Contents.{GivesTable}
use Rattle.cn_io.specs.Texts.Stocks.{GivesRightStocks}
use Rattle.cn_io.specs.declared.report.Outcome.TheVariants.{Whole}
use Rattle.cn_io.specs.declared.report.Report.{Report}
use Rattle.cn_io.specs.declared.streams.text.Text.{Text}
use Rattle.cn_io.specs.declared.fault.AppFault.{AppFault}
use Rattle.cn_io.specs.declared.fault.AppFault.TheVariants.{OutOfMemory}

-- the result of explaining a certificate that is right: its bounds are those of the type, and the text
-- tells why; the only fault is want of memory
abbrev pub IsExplainStocksReport : TypeTable → StockCertificate → Bool → Result Report AppFault
    → Type 0
IsExplainStocksReport t c all (Ok report) = AreBounds t c.at_least c.at_most
    × (string_bytes report.text ≡ stock_explanation t c all) × (report.outcome ≡ Whole)
IsExplainStocksReport t c all (Err e) = e ≡ OutOfMemory

-- the result of `explain --stocks` for two texts
abbrev pub HasExplainStocksReport : {R C : Type 0} → Text R → Text C → Bool
    → Result Report AppFault → Type 0
HasExplainStocksReport table certificate all r = Then (GivesTable table)
    (λ t. Then (GivesRightStocks t certificate) (λ c. IsExplainStocksReport t c all)) r
