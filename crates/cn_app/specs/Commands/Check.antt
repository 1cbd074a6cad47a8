-- What `check` writes: a function of the table and the certificate that it reads, and of the form.
use Rattle.std.specs.Prelude.{◌≡◌, ◌⊎◌, ◌++◌, codes, Option, Some, None, MatchOption}
use Rattle.std.specs.Prelude.{Result, Ok, Err, MatchResult, string_bytes}
use Rattle.serde_json.specs.Data.{Data}
use Rattle.serde_json.specs.Written.{compact_text}
use Rattle.cn_table.specs.TypeTable.{TypeTable}
use Rattle.cn_choice.specs.Discerning.{IsNumberUpTo}
use Rattle.cn_json.specs.Verdict.{accepted_data, named_fault, refused_data, unread_data, verdict_data}
use Rattle.cn_unread_cert.specs.FaultText.{unread_cert_fault_name, unread_cert_fault_number}
use Rattle.cn_unread_check.specs.FaultText.{unread_fault_name, unread_fault_number}
use Rattle.cn_form.specs.declared.answer_form.AnswerForm.{AnswerForm}
use Rattle.cn_form.specs.declared.answer_form.AnswerForm.TheVariants as form
use Rattle.cn_app.specs.Forms.{if_json}
use Rattle.cn_io.specs.Steps.{Then}
use Rattle.cn_io.specs.Texts.Checked.{GivesCheck, IsChecked}
use Rattle.cn_io.specs.Texts.Contents.{GivesCertificate, GivesTable}
use Rattle.cn_io.specs.declared.readers.checked.Checked.{Checked}
use Rattle.cn_io.specs.declared.report.Outcome.TheVariants.{Refused, Whole}
use Rattle.cn_io.specs.declared.report.Report.{Report}
use Rattle.cn_io.specs.declared.streams.text.Text.{Text}
use Rattle.cn_io.specs.declared.fault.AppFault.{AppFault}
use Rattle.cn_io.specs.declared.fault.AppFault.TheVariants.{Certificate, Check, OutOfMemory}
use Rattle.cn_io.specs.declared.fault.AppFault.TheVariants.{TreeCertificate, TreeCheck}
use Rattle.cn_io.specs.declared.fault.AppFault.TheVariants.{UnreadCertificate, UnreadCheck}
use Rattle.cn_io.specs.declared.fault.AppFault.TheVariants.{StockCertificate, StockCheck}
use Rattle.cn_stock_cert.specs.FaultText.{stock_cert_fault_name, stock_cert_fault_number}
use Rattle.cn_json.specs.StockVerdict.{stock_fault_data}
use Rattle.cn_app.specs.Commands.PlanFaults.{tree_fault_data, tree_unread_data}

-- the number of the certificate is that of the table up to its limit
abbrev pub HasItsNumber : Checked → Type 0
HasItsNumber checked =
    IsNumberUpTo checked.table checked.certificate.limit checked.certificate.number

-- the report on an accepted certificate: its number is right, and the text is `ok`, or the verdict
-- as JSON; the only fault is want of memory
abbrev pub IsCheckReport : AnswerForm → Checked → Result Report AppFault → Type 0
IsCheckReport told checked (Ok report) = HasItsNumber checked
    × (string_bytes report.text
    ≡ if_json told (compact_text accepted_data ++ codes "\n") (codes "ok\n"))
    × (report.outcome ≡ Whole)
IsCheckReport told checked (Err e) = e ≡ OutOfMemory

-- the same report on every accepted certificate
abbrev pub IsOkReport : AnswerForm → Result Report AppFault → Type 0
IsOkReport told r = (checked : Checked) → IsChecked checked → IsCheckReport told checked r

-- what JSON tells of a fault: those of the certificate
abbrev pub fault_told : AppFault → Option Data
fault_told (Certificate fault) = Some (unread_data fault)
fault_told (Check fault) = Some (verdict_data (Err fault))
fault_told (UnreadCertificate fault) = Some (refused_data
    (named_fault (unread_cert_fault_name fault) (unread_cert_fault_number fault)))
fault_told (UnreadCheck fault) =
    Some (refused_data (named_fault (unread_fault_name fault) (unread_fault_number fault)))
fault_told (StockCertificate fault) = Some (refused_data
    (named_fault (stock_cert_fault_name fault) (stock_cert_fault_number fault)))
fault_told (StockCheck fault) = Some (refused_data (stock_fault_data fault))
fault_told (TreeCertificate fault) = Some (tree_unread_data fault)
fault_told (TreeCheck fault) = Some (refused_data (tree_fault_data fault))
fault_told e = None

-- the report on a certificate that is refused for this fault, which is told; or memory ran out
abbrev pub IsRefusal : Data → AppFault → Result Report AppFault → Type 0
IsRefusal told e (Ok report) = (string_bytes report.text ≡ compact_text told ++ codes "\n")
    × (report.outcome ≡ Refused e)
IsRefusal told e (Err f) = f ≡ OutOfMemory

-- a certificate with this fault ends the command so: without JSON, by the fault alone
abbrev pub IsFaultReport : AnswerForm → AppFault → Result Report AppFault → Type 0
IsFaultReport form.Text e r = r ≡ Err e
IsFaultReport form.Json e r = MatchOption (fault_told e) (r ≡ Err e) (λ value. IsRefusal value e r)

-- the report on this verdict
abbrev pub IsVerdictReport : AnswerForm → Result (Unit {0}) AppFault → Result Report AppFault → Type 0
IsVerdictReport told verdict r =
    MatchResult verdict (λ _. IsOkReport told r) (λ e. IsFaultReport told e r)

-- the result of reading a certificate and checking it against a table: it is accepted, or this is
-- its fault
abbrev pub HasVerdictReport : {C : Type 0} → Text C → AnswerForm → TypeTable
    → Result Report AppFault → Type 0
HasVerdictReport certificate told t r = ((e : AppFault)
    × Then (GivesCertificate certificate) (λ c. GivesCheck t c) (Err e) × IsFaultReport told e r)
    ⊎ ((checked : Checked)
    × Then (GivesCertificate certificate) (λ c. GivesCheck t c) (Ok checked)
    × IsCheckReport told checked r)

-- the result of `check` for two texts
abbrev pub HasCheckReport : {R C : Type 0} → Text R → Text C → AnswerForm
    → Result Report AppFault → Type 0
HasCheckReport table certificate told r =
    Then (GivesTable table) (λ t. HasVerdictReport certificate told t) r
