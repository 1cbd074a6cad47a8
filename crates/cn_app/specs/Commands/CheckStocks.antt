-- What `check --stocks` writes: a function of the table and the certificate that it reads, and of the
-- form.
use Rattle.std.specs.Prelude.{◌≡◌, ◌⊎◌, ◌++◌, codes, MatchResult, Result, Ok, Err, string_bytes}
use Rattle.serde_json.specs.Written.{compact_text}
use Rattle.cn_table.specs.TypeTable.{TypeTable}
use Rattle.cn_stock_cert.specs.Certificate.{StockCertificate}
use Rattle.cn_stock_cert.specs.Right.{AreBounds, IsRight}
use Rattle.cn_json.specs.Verdict.{accepted_data}
use Rattle.cn_form.specs.declared.answer_form.AnswerForm.{AnswerForm}
use Rattle.cn_app.specs.Commands.Check.{IsFaultReport}
use Rattle.cn_app.specs.Forms.{if_json}
use Rattle.cn_io.specs.Steps.{Then}
use Rattle.cn_io.specs.Texts.Contents.{GivesTable}
use Rattle.cn_io.specs.Texts.Stocks.{EndsStockCheck, GivesStockCertificate}
use Rattle.cn_io.specs.declared.report.Outcome.TheVariants.{Whole}
use Rattle.cn_io.specs.declared.report.Report.{Report}
use Rattle.cn_io.specs.declared.streams.text.Text.{Text}
use Rattle.cn_io.specs.declared.fault.AppFault.{AppFault}
use Rattle.cn_io.specs.declared.fault.AppFault.TheVariants.{OutOfMemory}

-- the report on a certificate that is right: its bounds are those of the type, and the text is `ok`, or
-- the verdict as JSON; the only fault is want of memory
abbrev pub IsStockCheckReport : AnswerForm → TypeTable → StockCertificate
    → Result Report AppFault → Type 0
IsStockCheckReport told t c (Ok report) = AreBounds t c.at_least c.at_most
    × (string_bytes report.text
    ≡ if_json told (compact_text accepted_data ++ codes "\n") (codes "ok\n"))
    × (report.outcome ≡ Whole)
IsStockCheckReport told t c (Err e) = e ≡ OutOfMemory

-- the same report on every certificate that is right
abbrev pub IsOkStockReport : AnswerForm → Result Report AppFault → Type 0
IsOkStockReport told r = (t : TypeTable) (c : StockCertificate) → IsRight t c
    → IsStockCheckReport told t c r

-- the report on this verdict
abbrev pub IsStockVerdictReport : AnswerForm → Result (Unit {0}) AppFault
    → Result Report AppFault → Type 0
IsStockVerdictReport told verdict r =
    MatchResult verdict (λ _. IsOkStockReport told r) (λ e. IsFaultReport told e r)

-- the result of reading a certificate and checking it against a table: it is right; or this is its
-- fault
abbrev pub HasStockVerdictReport : {C : Type 0} → Text C → AnswerForm → TypeTable
    → Result Report AppFault → Type 0
HasStockVerdictReport certificate told t r =
    ((e : AppFault) × EndsStockCheck t certificate (Err e) × IsFaultReport told e r)
    ⊎ ((c : StockCertificate) × GivesStockCertificate certificate (Ok c) × IsRight t c
    × IsStockCheckReport told t c r)

-- the result of `check --stocks` for two texts
abbrev pub HasCheckStocksReport : {R C : Type 0} → Text R → Text C → AnswerForm
    → Result Report AppFault → Type 0
HasCheckStocksReport table certificate told r =
    Then (GivesTable table) (λ t. HasStockVerdictReport certificate told t) r
