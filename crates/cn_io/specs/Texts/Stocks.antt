-- A certificate by stocks, and its check against a table.
use Rattle.std.specs.Prelude.{◌≡◌, ◌⊎◌, None, Some, Result, Ok, Err}
use Rattle.cn_table.specs.TypeTable.{TypeTable}
use Rattle.cn_stock_cert.specs.Certificate.{StockCertificate}
use Rattle.cn_stock_cert.specs.Reading.{AreOf, fault_of}
use Rattle.cn_stock_cert.specs.Right.{IsRight}
use Rattle.cn_stock_cert.specs.declared.fault.StockCertFault.{StockCertFault}
use Rattle.cn_stock_check.specs.Faults.{IsFirstFault}
use Rattle.cn_stock_check.specs.declared.fault.StockCheckFault.{StockCheckFault}
use Rattle.cn_io.specs.FaultText.{plain_of}
use Rattle.cn_io.specs.Steps.{Then}
use Rattle.cn_io.specs.Streams.Reading.{EndsText, IsWhole}
use Rattle.cn_io.specs.declared.fault.AppFault.{AppFault}
use Rattle.cn_io.specs.declared.fault.AppFault.TheVariants as app
use Rattle.cn_io.specs.declared.fault.Source.TheVariants as source
use Rattle.cn_io.specs.declared.streams.text.Text.{Text}

-- the result of reading a certificate: the text is whole and spells this one; or it could not be
-- read, or is too long; or this is its first fault; or memory ran out
abbrev pub GivesStockCertificate : {C : Type 0} → Text C → Result StockCertificate AppFault
    → Type 0
GivesStockCertificate text (Ok c) = IsWhole source.Certificate text × AreOf text.bytes.items c
    × (fault_of text.bytes.items ≡ None)
GivesStockCertificate text (Err e) = EndsText source.Certificate text (Err e)
    ⊎ (IsWhole source.Certificate text × ((fault : StockCertFault)
    × (fault_of text.bytes.items ≡ Some fault) × (e ≡ plain_of (app.StockCertificate fault))))

-- the result of the check of a certificate against a table: it is right; or this is the first fault,
-- or memory ran out
abbrev pub GivesStockCheck : TypeTable → StockCertificate → Result Unit AppFault → Type 0
GivesStockCheck t c (Ok done) = IsRight t c
GivesStockCheck t c (Err e) = (e ≡ app.OutOfMemory)
    ⊎ ((fault : StockCheckFault) × IsFirstFault t c fault × (e ≡ plain_of (app.StockCheck fault)))

-- the result of reading a certificate and checking it against a table
abbrev pub EndsStockCheck : {C : Type 0} → TypeTable → Text C → Result Unit AppFault → Type 0
EndsStockCheck t certificate r =
    Then (GivesStockCertificate certificate) (λ c. GivesStockCheck t c) r

-- the result of reading a certificate that has to be right for a table: the one that the text spells;
-- or the end of the check with a fault
abbrev pub GivesRightStocks : {C : Type 0} → TypeTable → Text C
    → Result StockCertificate AppFault → Type 0
GivesRightStocks t text (Ok c) = GivesStockCertificate text (Ok c) × IsRight t c
GivesRightStocks t text (Err e) = EndsStockCheck t text (Err e)
