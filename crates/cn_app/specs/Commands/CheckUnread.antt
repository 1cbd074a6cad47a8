-- What `check --without-read` writes: a function of the table and the certificate that it reads, and
-- of the form.
use Rattle.std.specs.Prelude.{◌≡◌, ◌⊎◌, ◌++◌, codes, MatchResult, Result, Ok, Err, string_bytes}
use Rattle.serde_json.specs.Written.{compact_text}
use Rattle.cn_table.specs.TypeTable.{TypeTable}
use Rattle.cn_unread_number.specs.Bounds.{HasUnreadNumber}
use Rattle.cn_unread_cert.specs.Certificate.{UnreadCertificate}
use Rattle.cn_unread_cert.specs.Right.{IsRight}
use Rattle.cn_unread_check.specs.Bounds.{bounds_of}
use Rattle.cn_json.specs.Verdict.{accepted_data}
use Rattle.cn_form.specs.declared.answer_form.AnswerForm.{AnswerForm}
use Rattle.cn_app.specs.Commands.Check.{IsFaultReport}
use Rattle.cn_app.specs.Forms.{if_json}
use Rattle.cn_io.specs.Steps.{Then}
use Rattle.cn_io.specs.Texts.Contents.{GivesTable}
use Rattle.cn_io.specs.Texts.WithoutReads.{EndsUnreadCheck, GivesUnreadCertificate}
use Rattle.cn_io.specs.declared.report.Outcome.TheVariants.{Whole}
use Rattle.cn_io.specs.declared.report.Report.{Report}
use Rattle.cn_io.specs.declared.streams.text.Text.{Text}
use Rattle.cn_io.specs.declared.fault.AppFault.{AppFault}
use Rattle.cn_io.specs.declared.fault.AppFault.TheVariants.{OutOfMemory}

-- the report on a certificate that is right: its bounds are those of the type without reads, and the
-- text is `ok`, or the verdict as JSON; the only fault is want of memory
abbrev pub IsUnreadCheckReport : AnswerForm → TypeTable → UnreadCertificate
    → Result Report AppFault → Type 0
IsUnreadCheckReport told t c (Ok report) = HasUnreadNumber t (bounds_of c.at_least c.at_most)
    × (string_bytes report.text
    ≡ if_json told (compact_text accepted_data ++ codes "\n") (codes "ok\n"))
    × (report.outcome ≡ Whole)
IsUnreadCheckReport told t c (Err e) = e ≡ OutOfMemory

-- the same report on every certificate that is right
abbrev pub IsOkUnreadReport : AnswerForm → Result Report AppFault → Type 0
IsOkUnreadReport told r = (t : TypeTable) (c : UnreadCertificate) → IsRight t c
    → IsUnreadCheckReport told t c r

-- the report on this verdict
abbrev pub IsUnreadVerdictReport : AnswerForm → Result (Unit {0}) AppFault
    → Result Report AppFault → Type 0
IsUnreadVerdictReport told verdict r =
    MatchResult verdict (λ _. IsOkUnreadReport told r) (λ e. IsFaultReport told e r)

-- the result of reading a certificate and checking it against a table: it is right; or this is its
-- fault
abbrev pub HasUnreadVerdictReport : {C : Type 0} → Text C → AnswerForm → TypeTable
    → Result Report AppFault → Type 0
HasUnreadVerdictReport certificate told t r =
    ((e : AppFault) × EndsUnreadCheck t certificate (Err e) × IsFaultReport told e r)
    ⊎ ((c : UnreadCertificate) × GivesUnreadCertificate certificate (Ok c) × IsRight t c
    × IsUnreadCheckReport told t c r)

-- the result of `check --without-read` for two texts
abbrev pub HasCheckUnreadReport : {R C : Type 0} → Text R → Text C → AnswerForm
    → Result Report AppFault → Type 0
HasCheckUnreadReport table certificate told r =
    Then (GivesTable table) (λ t. HasUnreadVerdictReport certificate told t) r
