-- What `find --stocks` writes: a certificate by stocks of the table that it reads, with the limit.
use Rattle.std.specs.Prelude.{◌≡◌, ◌⊎◌, ◌++◌, ℕ, List, None, Option, codes, Result, Ok, Err, IsSomeAnd}
use Rattle.std.specs.Prelude.{string_bytes}
use Rattle.cn_table.specs.TypeTable.{TypeTable}
use Rattle.cn_stock_cert.specs.Certificate.{StockCertificate}
use Rattle.cn_stock_cert.specs.Right.{AreBounds}
use Rattle.cn_stock_cert.specs.StockText.{stock_text}
use Rattle.cn_stock_find.specs.Found.{IsFoundCertificate, limit_fault}
use Rattle.cn_io.specs.FaultText.{plain_of}
use Rattle.cn_io.specs.Steps.{Then}
use Rattle.cn_io.specs.Texts.Contents.{GivesTable}
use Rattle.cn_io.specs.declared.report.Outcome.TheVariants.{Whole}
use Rattle.cn_io.specs.declared.report.Report.{Report}
use Rattle.cn_io.specs.declared.streams.text.Text.{Text}
use Rattle.cn_io.specs.declared.fault.AppFault.{AppFault}
use Rattle.cn_io.specs.declared.fault.AppFault.TheVariants.{Find, OutOfMemory}

-- the limit has no fault; the text is a certificate that is right for the table and says what is found
-- within the limit, and a line feed; so its bounds are those of the type
pub record IsFoundByStocks (t : TypeTable) (limit : Option ℕ) (text : List ℕ) : Type 0 where
  pub searched : limit_fault limit ≡ None
  pub certificate : StockCertificate
  pub found : IsFoundCertificate t limit certificate
  pub bounds : AreBounds t certificate.at_least certificate.at_most
  pub written : text ≡ stock_text certificate ++ codes "\n"

-- the result of `find --stocks` for a table; the only faults are that of the limit, and want of memory
abbrev pub IsFindStocksReport : TypeTable → Option ℕ → Result Report AppFault → Type 0
IsFindStocksReport t limit (Ok report) =
    IsFoundByStocks t limit (string_bytes report.text) × (report.outcome ≡ Whole)
IsFindStocksReport t limit (Err e) =
    (e ≡ OutOfMemory) ⊎ IsSomeAnd (limit_fault limit) (λ fault. e ≡ plain_of (Find fault))

-- the result of `find --stocks` for a text
abbrev pub HasFindStocksReport : {R : Type 0} → Text R → Option ℕ → Result Report AppFault → Type 0
HasFindStocksReport table limit r =
    Then (GivesTable table) (λ t. IsFindStocksReport t limit) r
