-- What `agree --recoverable` writes: a function of the table, the inputs, the schedule and what is
-- asked for.
use Rattle.std.specs.Prelude.{◌≡◌, ◌⊎◌, ◌++◌, ℕ, Bool, List, None, Some, Option, Result, Ok, Err}
use Rattle.std.specs.Prelude.{IsSomeAnd, codes, false, string_bytes, true}
use Rattle.serde_json.specs.Data.{Data}
use Rattle.serde_json.specs.Written.{compact_text}
use Rattle.cn_table.specs.TypeTable.{TypeTable}
use Rattle.cn_agree.specs.Schedules.{schedule_fault}
use Rattle.cn_proto.specs.Plan.{processes_of}
use Rattle.cn_finding.specs.declared.limits.TheConstants.{GREATEST_LIMIT}
use Rattle.cn_recover.specs.Recording.{IsRecoverableNumberUpTo}
use Rattle.cn_lives.specs.Courses.{records_of}
use Rattle.cn_lives.specs.Plans.{IsFirstPlan, RecordingPlan}
use Rattle.cn_lives.specs.Runs.{decisions_after}
use Rattle.cn_lives.specs.Schedules.{named}
use Rattle.cn_lives.specs.declared.schedule.Event.{Event}
use Rattle.cn_plan_text.specs.Lives.{life_step_lines}
use Rattle.cn_plan_text.specs.Decisions.{decision_lines}
use Rattle.cn_json.specs.Course.{decisions_data}
use Rattle.cn_json.specs.Lives.{life_course_data}
use Rattle.cn_form.specs.declared.answer_form.AnswerForm.{AnswerForm}
use Rattle.cn_io.specs.Arguments.Lives.{CanBe, GivesLifeLists, GivesProcesses}
use Rattle.cn_io.specs.FaultText.{plain_of}
use Rattle.cn_app.specs.Forms.{if_json}
use Rattle.cn_io.specs.Steps.{Then}
use Rattle.cn_io.specs.Texts.Contents.{GivesTable}
use Rattle.cn_io.specs.declared.arguments.list_text.ListText.{ListText}
use Rattle.cn_io.specs.declared.report.Outcome.TheVariants.{Whole}
use Rattle.cn_io.specs.declared.report.Report.{Report}
use Rattle.cn_app.specs.declared.reports.lives.AskedLives.{AskedLives}
use Rattle.cn_io.specs.declared.streams.text.Text.{Text}
use Rattle.cn_io.specs.declared.fault.AppFault.{AppFault}
use Rattle.cn_io.specs.declared.fault.AppFault.TheVariants.{NoRecordingWitness, OutOfMemory}
use Rattle.cn_io.specs.declared.fault.AppFault.TheVariants.{Schedule}

-- ---- the plan

-- the plan is for as many processes as given, or else for as many as the recoverable number up to
-- the greatest limit says
abbrev pub IsCount : TypeTable → Option ℕ → ℕ → Type 0
IsCount t (Some given) n = n ≡ given
IsCount t None n = IsRecoverableNumberUpTo t GREATEST_LIMIT (Some n)

-- the result of looking for this number; there may be none, if none was given
abbrev pub GivesCount : TypeTable → Option ℕ → Result ℕ AppFault → Type 0
GivesCount t given (Ok n) = IsCount t given n × CanBe n
GivesCount t given (Err e) = (e ≡ OutOfMemory) ⊎ (GivesProcesses given (Err e)
    ⊎ ((e ≡ NoRecordingWitness) × (given ≡ None)
    × IsRecoverableNumberUpTo t GREATEST_LIMIT None))

-- the result of looking for the plan of the first recording witness for n processes
abbrev pub GivesFirstPlan : TypeTable → ℕ → Result RecordingPlan AppFault → Type 0
GivesFirstPlan t n (Ok plan) = IsFirstPlan t n (Some plan)
GivesFirstPlan t n (Err e) =
    (e ≡ OutOfMemory) ⊎ ((e ≡ NoRecordingWitness) × IsFirstPlan t n None)

-- the same for the number of processes that was given, or else for the recoverable number
abbrev pub GivesLivesPlan : TypeTable → Option ℕ → Result RecordingPlan AppFault → Type 0
GivesLivesPlan t given r = Then (GivesCount t given) (GivesFirstPlan t) r

-- ---- the run

-- what a run tells as JSON: the decisions, and each step and crash if these are asked for
abbrev pub lives_data : RecordingPlan → List ℕ → List Event → Bool → Data
lives_data p inputs schedule false = decisions_data (decisions_after p inputs schedule)
lives_data p inputs schedule true = life_course_data p.plan.table (record {
  records = records_of p inputs schedule;
  decisions = decisions_after p inputs schedule;
})

-- the lines of a run
abbrev pub lives_lines : RecordingPlan → List ℕ → List Event → Bool → List ℕ
lives_lines p inputs schedule false = decision_lines 0 (decisions_after p inputs schedule)
lives_lines p inputs schedule true = life_step_lines p.plan.table (records_of p inputs schedule)
    ++ decision_lines 0 (decisions_after p inputs schedule)

-- the text of a run: its lines, or one JSON value
abbrev pub lives_text : RecordingPlan → List ℕ → List Event → Bool → AnswerForm → List ℕ
lives_text p inputs schedule steps form =
    if_json form (compact_text (lives_data p inputs schedule steps) ++ codes "\n")
    (lives_lines p inputs schedule steps)

-- the inputs and the schedule have no fault, and this is the text of the run
pub record IsLived (p : RecordingPlan) (inputs : List ℕ) (schedule : List Event) (steps : Bool)
    (form : AnswerForm) (text : List ℕ) : Type 0 where
  pub run : schedule_fault (processes_of p.plan) inputs (named schedule) ≡ None
  pub written : text ≡ lives_text p inputs schedule steps form

-- the result of running a plan: the text of the run, or the first fault of the inputs and the
-- schedule
abbrev pub IsLivesRunReport : RecordingPlan → List ℕ → List Event → Bool → AnswerForm
    → Result Report AppFault → Type 0
IsLivesRunReport p inputs schedule steps form (Ok report) =
    IsLived p inputs schedule steps form (string_bytes report.text) × (report.outcome ≡ Whole)
IsLivesRunReport p inputs schedule steps form (Err e) = (e ≡ OutOfMemory)
    ⊎ IsSomeAnd (schedule_fault (processes_of p.plan) inputs (named schedule))
    (λ fault. e ≡ plain_of (Schedule fault))

-- the same for the plan of the table
abbrev pub IsLivesReport : TypeTable → List ℕ → List Event → AskedLives
    → Result Report AppFault → Type 0
IsLivesReport t inputs schedule asked r = Then (GivesLivesPlan t asked.processes)
    (λ plan. IsLivesRunReport plan inputs schedule asked.steps asked.form) r

-- the result for a text and two lists: the lists are read first
abbrev pub HasLivesReport : {R : Type 0} → Text R → ListText → ListText → AskedLives
    → Result Report AppFault → Type 0
HasLivesReport table inputs schedule asked r = Then (GivesLifeLists inputs schedule)
    (λ lists. Then (GivesTable table)
    (λ t. IsLivesReport t lists.inputs.items lists.schedule.items asked)) r
