-- A certificate of a number without reads, and its check against a table.
use Rattle.std.specs.Prelude.{◌≡◌, ◌⊎◌, None, Some, Result, Ok, Err}
use Rattle.cn_table.specs.TypeTable.{TypeTable}
use Rattle.cn_unread_cert.specs.Certificate.{UnreadCertificate}
use Rattle.cn_unread_cert.specs.Reading.{AreOf, fault_of}
use Rattle.cn_unread_cert.specs.Right.{IsRight}
use Rattle.cn_unread_cert.specs.declared.fault.UnreadCertFault.{UnreadCertFault}
use Rattle.cn_unread_check.specs.Faults.{IsFirstFault, IsUndecided}
use Rattle.cn_unread_check.specs.declared.fault.UnreadCheckFault.{UnreadCheckFault}
use Rattle.cn_io.specs.FaultText.{plain_of}
use Rattle.cn_io.specs.Steps.{Then}
use Rattle.cn_io.specs.Streams.Reading.{EndsText, IsWhole}
use Rattle.cn_io.specs.declared.fault.AppFault.{AppFault}
use Rattle.cn_io.specs.declared.fault.AppFault.TheVariants as app
use Rattle.cn_io.specs.declared.fault.Source.TheVariants as source
use Rattle.cn_io.specs.declared.streams.text.Text.{Text}

-- the result of reading a certificate: the text is whole and spells this one; or it could not be
-- read, or is too long; or this is its first fault
abbrev pub GivesUnreadCertificate : {C : Type 0} → Text C → Result UnreadCertificate AppFault
    → Type 0
GivesUnreadCertificate text (Ok c) = IsWhole source.Certificate text × AreOf text.bytes.items c
    × (fault_of text.bytes.items ≡ None)
GivesUnreadCertificate text (Err e) = EndsText source.Certificate text (Err e)
    ⊎ (IsWhole source.Certificate text × ((fault : UnreadCertFault)
    × (fault_of text.bytes.items ≡ Some fault) × (e ≡ plain_of (app.UnreadCertificate fault))))

-- the result of the check of a certificate against a table: it is right; or this is the first fault,
-- or the check comes to no end
abbrev pub GivesUnreadCheck : TypeTable → UnreadCertificate → Result Unit AppFault → Type 0
GivesUnreadCheck t c (Ok done) = IsRight t c
GivesUnreadCheck t c (Err e) = (fault : UnreadCheckFault)
    × (IsUndecided c fault ⊎ IsFirstFault t c fault) × (e ≡ plain_of (app.UnreadCheck fault))

-- the result of reading a certificate and checking it against a table
abbrev pub EndsUnreadCheck : {C : Type 0} → TypeTable → Text C → Result Unit AppFault → Type 0
EndsUnreadCheck t certificate r =
    Then (GivesUnreadCertificate certificate) (λ c. GivesUnreadCheck t c) r
