-- What `why --recoverable` writes: a function of the table that it reads and of the form.
use Rattle.std.specs.Prelude.{◌≡◌, ◌++◌, ℕ, List, codes, Bool, Result, Ok, Err, string_bytes}
use Rattle.serde_json.specs.Written.{compact_text}
use Rattle.cn_table.specs.TypeTable.{TypeTable}
use Rattle.cn_reasons.specs.Recoverable.{ExplainsRecoverable}
use Rattle.cn_markdown.specs.Recoverable.{recoverable_markdown}
use Rattle.cn_text.specs.Recoverable.{recoverable_text}
use Rattle.cn_reasons.specs.declared.recoverable.RecoverableExplanation.{RecoverableExplanation}
use Rattle.cn_json.specs.Recoverable.{recoverable_data}
use Rattle.cn_form.specs.declared.answer_form.DocumentForm.{DocumentForm}
use Rattle.cn_form.specs.declared.answer_form.DocumentForm.TheVariants as form
use Rattle.cn_io.specs.Steps.{Then}
use Rattle.cn_io.specs.Texts.Contents.{GivesTable}
use Rattle.cn_io.specs.declared.report.Outcome.TheVariants.{Whole}
use Rattle.cn_io.specs.declared.report.Report.{Report}
use Rattle.cn_io.specs.declared.streams.text.Text.{Text}
use Rattle.cn_io.specs.declared.fault.AppFault.{AppFault}
use Rattle.cn_io.specs.declared.fault.AppFault.TheVariants.{OutOfMemory}

-- the text of an explanation in a form
abbrev pub recoverable_in : DocumentForm → RecoverableExplanation → List ℕ
recoverable_in form.Text e = recoverable_text e
recoverable_in form.Json e = compact_text (recoverable_data e) ++ codes "\n"
recoverable_in form.Markdown e = recoverable_markdown e

-- the text tells the recoverable number of the table and the reasons for it, in a form
pub record HasRecoverableReasons (t : TypeTable) (all : Bool) (told : DocumentForm)
    (text : List ℕ) : Type 0 where
  pub explanation : RecoverableExplanation
  pub explains : ExplainsRecoverable t all explanation
  pub written : text ≡ recoverable_in told explanation

-- the result of `why --recoverable` for a table; the only fault is want of memory
abbrev pub IsWhyRecoverableReport : TypeTable → Bool → DocumentForm → Result Report AppFault
    → Type 0
IsWhyRecoverableReport t all told (Ok report) =
    HasRecoverableReasons t all told (string_bytes report.text) × (report.outcome ≡ Whole)
IsWhyRecoverableReport t all told (Err e) = e ≡ OutOfMemory

-- the result of `why --recoverable` for a text
abbrev pub HasWhyRecoverableReport : {R : Type 0} → Text R → Bool → DocumentForm
    → Result Report AppFault → Type 0
HasWhyRecoverableReport text all told r =
    Then (GivesTable text) (λ t s. IsWhyRecoverableReport t all told s) r
