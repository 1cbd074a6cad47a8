-- What `why --stocks` writes: the reasons of a certificate by stocks of the table that it reads, with the
-- limit.
use Rattle.std.specs.Prelude.{◌≡◌, ◌⊎◌, ℕ, List, Bool, None, Option, Result, Ok, Err, IsSomeAnd}
use Rattle.std.specs.Prelude.{string_bytes}
use Rattle.cn_table.specs.TypeTable.{TypeTable}
use Rattle.cn_stock_cert.specs.Certificate.{StockCertificate}
use Rattle.cn_stock_cert.specs.Right.{AreBounds}
use Rattle.cn_stock_find.specs.Found.{IsFoundCertificate, limit_fault}
use Rattle.cn_stock_text.specs.Explanation.{stock_explanation}
use Rattle.cn_io.specs.FaultText.{plain_of}
use Rattle.cn_io.specs.Steps.{Then}
use Rattle.cn_io.specs.Texts.Contents.{GivesTable}
use Rattle.cn_io.specs.declared.report.Outcome.TheVariants.{Whole}
use Rattle.cn_io.specs.declared.report.Report.{Report}
use Rattle.cn_io.specs.declared.streams.text.Text.{Text}
use Rattle.cn_io.specs.declared.fault.AppFault.{AppFault}
use Rattle.cn_io.specs.declared.fault.AppFault.TheVariants.{Find, OutOfMemory}

-- the limit has no fault; the text tells why the number of a certificate is what it is, which is right
-- for the table and says what is found within the limit; so its bounds are those of the type
pub record IsToldByStocks (t : TypeTable) (limit : Option ℕ) (all : Bool) (text : List ℕ)
    : Type 0 where
  pub searched : limit_fault limit ≡ None
  pub certificate : StockCertificate
  pub found : IsFoundCertificate t limit certificate
  pub bounds : AreBounds t certificate.at_least certificate.at_most
  pub told : text ≡ stock_explanation t certificate all

-- the result of `why --stocks` for a table; the only faults are that of the limit, and want of memory
abbrev pub IsWhyStocksReport : TypeTable → Option ℕ → Bool → Result Report AppFault → Type 0
IsWhyStocksReport t limit all (Ok report) =
    IsToldByStocks t limit all (string_bytes report.text) × (report.outcome ≡ Whole)
IsWhyStocksReport t limit all (Err e) =
    (e ≡ OutOfMemory) ⊎ IsSomeAnd (limit_fault limit) (λ fault. e ≡ plain_of (Find fault))

-- the result of `why --stocks` for a text
abbrev pub HasWhyStocksReport : {R : Type 0} → Text R → Option ℕ → Bool → Result Report AppFault
    → Type 0
HasWhyStocksReport table limit all r =
    Then (GivesTable table) (λ t. IsWhyStocksReport t limit all) r
