-- What `find --without-read` writes: a certificate for the table that it reads.
use Rattle.std.specs.Prelude.{◌≡◌, ◌++◌, ℕ, List, codes, Result, Ok, Err, string_bytes}
use Rattle.cn_table.specs.TypeTable.{TypeTable}
use Rattle.cn_unread_number.specs.Bounds.{HasUnreadNumber}
use Rattle.cn_unread_cert.specs.Certificate.{UnreadCertificate}
use Rattle.cn_unread_cert.specs.Kept.{KeepsFound}
use Rattle.cn_unread_cert.specs.Right.{IsRight}
use Rattle.cn_unread_cert.specs.UnreadText.{unread_text}
use Rattle.cn_unread_check.specs.Bounds.{bounds_of}
use Rattle.cn_io.specs.Steps.{Then}
use Rattle.cn_io.specs.Texts.Contents.{GivesTable}
use Rattle.cn_io.specs.declared.report.Outcome.TheVariants.{Whole}
use Rattle.cn_io.specs.declared.report.Report.{Report}
use Rattle.cn_io.specs.declared.streams.text.Text.{Text}
use Rattle.cn_io.specs.declared.fault.AppFault.{AppFault}
use Rattle.cn_io.specs.declared.fault.AppFault.TheVariants.{OutOfMemory}

-- the text is a certificate that is right for the table and keeps the bounds that are found, and a
-- line feed; so its bounds are those of the type without reads
pub record IsFoundUnread (t : TypeTable) (text : List ℕ) : Type 0 where
  pub certificate : UnreadCertificate
  pub right : IsRight t certificate
  pub kept : KeepsFound t certificate
  pub bounds : HasUnreadNumber t (bounds_of certificate.at_least certificate.at_most)
  pub written : text ≡ unread_text certificate ++ codes "\n"

-- the result of `find --without-read` for a table; the only fault is want of memory
abbrev pub IsFindUnreadReport : TypeTable → Result Report AppFault → Type 0
IsFindUnreadReport t (Ok report) =
    IsFoundUnread t (string_bytes report.text) × (report.outcome ≡ Whole)
IsFindUnreadReport t (Err e) = e ≡ OutOfMemory

-- the result of `find --without-read` for a text
abbrev pub HasFindUnreadReport : {R : Type 0} → Text R → Result Report AppFault → Type 0
HasFindUnreadReport text r = Then (GivesTable text) (λ t s. IsFindUnreadReport t s) r
