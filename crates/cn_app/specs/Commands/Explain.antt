-- What `explain` writes: a function of the table and the certificate that it reads, and of the form.
use Rattle.std.specs.Prelude.{◌≡◌, ◌++◌, ℕ, List, codes, Bool, None, Option, Result, Ok, Err, string_bytes}
use Rattle.serde_json.specs.Written.{compact_text}
use Rattle.cn_markdown.specs.Explanation.{explanation_markdown}
use Rattle.cn_reasons.specs.Explanation.{Explains}
use Rattle.cn_text.specs.Explanation.{explanation_text}
use Rattle.cn_reasons.specs.declared.explanation.Explanation.{Explanation}
use Rattle.cn_reasons.specs.declared.numbers.TypeNumber.TheVariants.{UpTo}
use Rattle.cn_sentences.specs.declared.shortest.ShortestCost.{ShortestCost}
use Rattle.cn_json.specs.Explanation.{explanation_data}
use Rattle.cn_form.specs.Forms.{document_form}
use Rattle.cn_form.specs.declared.answer_form.AnswerForm.{AnswerForm}
use Rattle.cn_form.specs.declared.answer_form.DocumentForm.{DocumentForm}
use Rattle.cn_form.specs.declared.answer_form.DocumentForm.TheVariants as form
use Rattle.cn_app.specs.Commands.Check.{HasItsNumber}
use Rattle.cn_io.specs.Steps.{Then}
use Rattle.cn_io.specs.Texts.Checked.{GivesChecked}
use Rattle.cn_io.specs.declared.readers.checked.Checked.{Checked}
use Rattle.cn_io.specs.declared.report.Outcome.TheVariants.{Whole}
use Rattle.cn_io.specs.declared.report.Report.{Report}
use Rattle.cn_io.specs.declared.streams.text.Text.{Text}
use Rattle.cn_io.specs.declared.fault.AppFault.{AppFault}
use Rattle.cn_io.specs.declared.fault.AppFault.TheVariants.{OutOfMemory}

-- the explanation is of the certificate's number up to its limit
abbrev pub ExplainsChecked : Checked → Bool → Explanation → Type 0
ExplainsChecked checked all e =
    let c = checked.certificate in Explains checked.table c (UpTo c.limit c.number) None all e

-- the text of an explanation in a form, and of how short protocols get, if that is told
abbrev pub explanation_in : DocumentForm → Explanation → Option ShortestCost → List ℕ
explanation_in form.Text e shortest = explanation_text e shortest
explanation_in form.Json e shortest = compact_text (explanation_data e shortest) ++ codes "\n"
explanation_in form.Markdown e shortest = explanation_markdown e shortest

-- the result of explaining a certificate in a form: its number is right, and the text tells why; the
-- only fault is want of memory
abbrev pub IsExplainReport : Checked → Bool → DocumentForm → Result Report AppFault → Type 0
IsExplainReport checked all told (Ok report) = HasItsNumber checked
    × ((e : Explanation) × ExplainsChecked checked all e
    × (string_bytes report.text ≡ explanation_in told e None))
    × (report.outcome ≡ Whole)
IsExplainReport checked all told (Err e) = e ≡ OutOfMemory

-- the result of `explain` for two texts
abbrev pub HasExplainReport : {R C : Type 0} → Text R → Text C → Bool → AnswerForm
    → Result Report AppFault → Type 0
HasExplainReport table certificate all told r =
    Then (GivesChecked table certificate)
    (λ checked. IsExplainReport checked all (document_form told)) r
