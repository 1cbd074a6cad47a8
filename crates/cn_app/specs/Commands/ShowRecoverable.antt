-- What `show --recoverable` writes: a function of the plan and of the form.
use Rattle.std.specs.Prelude.{◌≡◌, ◌++◌, ℕ, List, Option, Result, Ok, Err, codes, string_bytes}
use Rattle.serde_json.specs.Written.{compact_text}
use Rattle.cn_table.specs.TypeTable.{TypeTable}
use Rattle.cn_lives.specs.Plans.{RecordingPlan}
use Rattle.cn_plan_text.specs.RecordingPlans.{recording_plan_text}
use Rattle.cn_json.specs.RecordingPlans.{recording_plan_data}
use Rattle.cn_form.specs.declared.answer_form.AnswerForm.{AnswerForm}
use Rattle.cn_io.specs.Steps.{Then}
use Rattle.cn_io.specs.Texts.Contents.{GivesTable}
use Rattle.cn_io.specs.declared.report.Outcome.TheVariants.{Whole}
use Rattle.cn_io.specs.declared.report.Report.{Report}
use Rattle.cn_io.specs.declared.streams.text.Text.{Text}
use Rattle.cn_io.specs.declared.fault.AppFault.{AppFault}
use Rattle.cn_io.specs.declared.fault.AppFault.TheVariants.{OutOfMemory}
use Rattle.cn_app.specs.Commands.Lives.{GivesLivesPlan}
use Rattle.cn_app.specs.Forms.{if_json}

-- the text of the plan of a recording witness in its forms: its lines, or one JSON value
abbrev pub recording_text : AnswerForm → RecordingPlan → List ℕ
recording_text form plan =
    if_json form (compact_text (recording_plan_data plan) ++ codes "\n") (recording_plan_text plan)

-- the result of writing the plan in a form, unless memory ran out
abbrev pub IsRecordingReport : RecordingPlan → AnswerForm → Result Report AppFault → Type 0
IsRecordingReport plan form (Ok report) =
    (string_bytes report.text ≡ recording_text form plan) × (report.outcome ≡ Whole)
IsRecordingReport plan form (Err e) = e ≡ OutOfMemory

-- the same for the plan that `agree --recoverable` runs, for as many processes as given, or else for
-- the recoverable number
abbrev pub IsShowRecoverableReport : TypeTable → Option ℕ → AnswerForm → Result Report AppFault
    → Type 0
IsShowRecoverableReport t given form r =
    Then (GivesLivesPlan t given) (λ plan. IsRecordingReport plan form) r

-- the result of `show --recoverable` for a text
abbrev pub HasShowRecoverableReport : {R : Type 0} → Text R → Option ℕ → AnswerForm
    → Result Report AppFault → Type 0
HasShowRecoverableReport table given form r =
    Then (GivesTable table) (λ t. IsShowRecoverableReport t given form) r
