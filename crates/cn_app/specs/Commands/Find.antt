-- What `find` writes: a function of the table that it reads and of the limit.
use Rattle.std.specs.Prelude.{ℕ, length, Option, ◌≡◌, ◌⊎◌, List, ◌++◌, codes, None, Some, IsSomeAnd}
use Rattle.std.specs.Prelude.{Result, Ok, Err, string_bytes}
use Rattle.cn_table.specs.TypeTable.{TypeTable}
use Rattle.cn_search.specs.Faults.{find_fault}
use Rattle.cn_finding.specs.Evidence.{IsFindingFor}
use Rattle.cn_finding.specs.Finding.{Finding}
use Rattle.cn_search.specs.GreatestLimit.{IsGreatestLimit}
use Rattle.cn_search.specs.declared.fault.FindFault.{FindFault}
use Rattle.cn_cert.specs.Certificate.{Certificate, certificate_of}
use Rattle.cn_cert.specs.CertificateText.{certificate_text}
use Rattle.cn_io.specs.FaultText.{plain_of}
use Rattle.cn_io.specs.Steps.{Then}
use Rattle.cn_io.specs.Texts.Contents.{GivesTable}
use Rattle.cn_io.specs.declared.report.Outcome.TheVariants.{Whole}
use Rattle.cn_io.specs.declared.report.Report.{Report}
use Rattle.cn_io.specs.declared.streams.text.Text.{Text}
use Rattle.cn_io.specs.declared.fault.AppFault.{AppFault}
use Rattle.cn_io.specs.declared.fault.AppFault.TheVariants.{Find, OutOfMemory}

-- the first fault of the limit for the table
abbrev pub limit_fault : TypeTable → ℕ → Option FindFault
limit_fault t limit = find_fault (length t.states) (length t.operations) limit

-- the given limit, or else the greatest that has no fault for the table
abbrev pub IsLimitFor : TypeTable → Option ℕ → ℕ → Type 0
IsLimitFor t (Some given) limit = limit ≡ given
IsLimitFor t None limit = IsGreatestLimit (length t.states) (length t.operations) limit

-- the limit has no fault, and this is the certificate of the finding for the table and the limit
pub record IsFoundCertificate (t : TypeTable) (limit : ℕ) (certificate : Certificate) : Type 0 where
  pub searched : limit_fault t limit ≡ None
  pub finding : Finding
  pub found : IsFindingFor t limit finding
  pub is : certificate ≡ certificate_of t.name finding

-- the result of searching for a certificate: that of the finding; or memory ran out, or the limit
-- has this first fault
abbrev pub GivesFound : TypeTable → ℕ → Result Certificate AppFault → Type 0
GivesFound t limit (Ok certificate) = IsFoundCertificate t limit certificate
GivesFound t limit (Err e) =
    (e ≡ OutOfMemory) ⊎ IsSomeAnd (limit_fault t limit) (λ fault. e ≡ plain_of (Find fault))

-- the limit has no fault, and the text is the certificate of the finding for the table and the
-- limit, and a line feed
pub record IsFound (t : TypeTable) (limit : ℕ) (text : List ℕ) : Type 0 where
  pub searched : limit_fault t limit ≡ None
  pub finding : Finding
  pub found : IsFindingFor t limit finding
  pub written : text ≡ certificate_text (certificate_of t.name finding) ++ codes "\n"

-- the result of the search: the text of its certificate; or memory ran out, or the limit has this
-- first fault
abbrev pub IsFindReport : TypeTable → ℕ → Result Report AppFault → Type 0
IsFindReport t limit (Ok report) =
    IsFound t limit (string_bytes report.text) × (report.outcome ≡ Whole)
IsFindReport t limit (Err e) =
    (e ≡ OutOfMemory) ⊎ IsSomeAnd (limit_fault t limit) (λ fault. e ≡ plain_of (Find fault))

-- the result of `find` for a text, with a given limit or none
abbrev pub HasFindReport : {R : Type 0} → Text R → Option ℕ → Result Report AppFault → Type 0
HasFindReport text given r = Then (GivesTable text)
    (λ t s. (limit : ℕ) × IsLimitFor t given limit × IsFindReport t limit s) r
