-- A table and a certificate, and the check of the certificate against the table.
use Rattle.std.specs.Prelude.{ℕ, List, Option, Result, Ok, Err, ◌≡◌, ◌⊎◌}
use Rattle.cn_table.specs.TypeTable.{TypeTable}
use Rattle.cn_cert.specs.Certificate.{Certificate}
use Rattle.cn_cert.specs.Reading.{reading}
use Rattle.cn_check.specs.Verdict.{IsAccepted}
use Rattle.cn_check.specs.Faults.{IsFirstFault}
use Rattle.cn_check.specs.declared.fault.CheckFault.{CheckFault}
use Rattle.cn_io.specs.Steps.{Then}
use Rattle.cn_io.specs.Streams.Reading.{HasRead}
use Rattle.cn_io.specs.Texts.Contents.{GivesCertificate, GivesTable, SpellsTable}
use Rattle.cn_io.specs.declared.readers.checked.Checked.{Checked}
use Rattle.cn_io.specs.declared.fault.AppFault.{AppFault}
use Rattle.cn_io.specs.declared.fault.AppFault.TheVariants.{Check}
use Rattle.cn_io.specs.declared.fault.Source.TheVariants as source
use Rattle.cn_io.specs.declared.streams.text.Text.{Text}

-- the check accepts the certificate for the table
abbrev pub IsChecked : Checked → Type 0
IsChecked checked = IsAccepted checked.table checked.certificate

-- the result of the check of a certificate against a table: it accepts the certificate, and both
-- are kept; or this is the first fault
abbrev pub GivesCheck : TypeTable → Certificate → Result Checked AppFault → Type 0
GivesCheck t c (Ok checked) = IsAccepted t c × (checked.table ≡ t) × (checked.certificate ≡ c)
GivesCheck t c (Err e) = (fault : CheckFault) × IsFirstFault t c fault × (e ≡ Check fault)

-- the bytes spell a certificate that the check accepts for the table
abbrev pub SpellAcceptedCertificate : TypeTable → List ℕ → Type 0
SpellAcceptedCertificate t bytes = (c : Certificate) × (reading bytes ≡ Ok c) × IsAccepted t c

-- the result of reading a certificate and checking it against a table, where the certificate is not
-- kept: the check accepts it; or this is the first fault
abbrev pub EndsCheck : {C : Type 0} → TypeTable → Text C → Result Unit AppFault → Type 0
EndsCheck t certificate (Ok done) =
    (c : Certificate) × GivesCertificate certificate (Ok c) × IsAccepted t c
EndsCheck t certificate (Err e) = Then (GivesCertificate certificate) (λ c. GivesCheck t c) (Err e)

-- a table is read, then a certificate, and then the certificate is checked against the table
abbrev pub GivesChecked : {R C : Type 0} → Text R → Text C → Result Checked AppFault → Type 0
GivesChecked table certificate r =
    Then (GivesTable table) (λ t. Then (GivesCertificate certificate) (λ c. GivesCheck t c)) r

-- what became of a text t and then of a text c: if the first spells no table, the second is as it
-- was
pub record HaveReadBoth {R C : Type 0} (remaining : R → Option (List ℕ))
    (left : C → Option (List ℕ)) (t u : Text R) (c d : Text C) : Type 0 where
  pub table : HasRead source.Table remaining t u
  pub certificate : HasRead source.Certificate left c d
  pub order : (d ≡ c) ⊎ SpellsTable u

-- both are as they were
abbrev pub AreUntouched : {R C : Type 0} → Text R → Text R → Text C → Text C → Type 0
AreUntouched t u c d = (u ≡ t) × (d ≡ c)
