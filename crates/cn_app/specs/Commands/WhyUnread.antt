-- What `why --without-read` writes: a function of the table that it reads and of the form.
use Rattle.std.specs.Prelude.{◌≡◌, ◌++◌, ℕ, List, codes, Bool, Result, Ok, Err, string_bytes}
use Rattle.serde_json.specs.Written.{compact_text}
use Rattle.cn_table.specs.TypeTable.{TypeTable}
use Rattle.cn_unread_reasons.specs.UnreadExplanations.{ExplainsUnread}
use Rattle.cn_markdown.specs.Unread.{unread_markdown}
use Rattle.cn_text.specs.Unread.{unread_text}
use Rattle.cn_unread_reasons.specs.declared.explanation.UnreadExplanation.{UnreadExplanation}
use Rattle.cn_json.specs.Unread.{unread_explanation_data}
use Rattle.cn_form.specs.declared.answer_form.DocumentForm.{DocumentForm}
use Rattle.cn_form.specs.declared.answer_form.DocumentForm.TheVariants as form
use Rattle.cn_io.specs.Steps.{Then}
use Rattle.cn_io.specs.Texts.Contents.{GivesTable}
use Rattle.cn_io.specs.declared.report.Outcome.TheVariants.{Whole}
use Rattle.cn_io.specs.declared.report.Report.{Report}
use Rattle.cn_io.specs.declared.streams.text.Text.{Text}
use Rattle.cn_io.specs.declared.fault.AppFault.{AppFault}
use Rattle.cn_io.specs.declared.fault.AppFault.TheVariants.{OutOfMemory}

-- the text of an explanation in a form
abbrev pub unread_in : DocumentForm → UnreadExplanation → List ℕ
unread_in form.Text e = unread_text e
unread_in form.Json e = compact_text (unread_explanation_data e) ++ codes "\n"
unread_in form.Markdown e = unread_markdown e

-- the text tells the number of the table without reads and the reasons for it, in a form
pub record HasUnreadReasons (t : TypeTable) (all : Bool) (told : DocumentForm) (text : List ℕ)
    : Type 0 where
  pub explanation : UnreadExplanation
  pub explains : ExplainsUnread t all explanation
  pub written : text ≡ unread_in told explanation

-- the result of `why --without-read` for a table; the only fault is want of memory
abbrev pub IsWhyUnreadReport : TypeTable → Bool → DocumentForm → Result Report AppFault → Type 0
IsWhyUnreadReport t all told (Ok report) =
    HasUnreadReasons t all told (string_bytes report.text) × (report.outcome ≡ Whole)
IsWhyUnreadReport t all told (Err e) = e ≡ OutOfMemory

-- the result of `why --without-read` for a text
abbrev pub HasWhyUnreadReport : {R : Type 0} → Text R → Bool → DocumentForm
    → Result Report AppFault → Type 0
HasWhyUnreadReport text all told r =
    Then (GivesTable text) (λ t s. IsWhyUnreadReport t all told s) r
