-- What `agree` writes: a function of the plan, the inputs, the schedule and what is asked for.
use Rattle.std.specs.Prelude.{◌≡◌, ◌⊎◌, ◌++◌, ℕ, Bool, if◌then◌else◌, List, [], None, Result, Ok}
use Rattle.std.specs.Prelude.{Err, IsSome, IsSomeAnd, codes, false, string_bytes, true}
use Rattle.serde_json.specs.Data.{Data}
use Rattle.serde_json.specs.Written.{compact_text}
use Rattle.cn_proto.specs.Plan.{Plan, processes_of, protocol_of}
use Rattle.cn_agree.specs.Actions.{records_of}
use Rattle.cn_agree.specs.Consensus.{IsConsensus}
use Rattle.cn_agree.specs.Schedules.{decisions_after, schedule_fault}
use Rattle.cn_plan_text.specs.Decisions.{decision_lines}
use Rattle.cn_plan_text.specs.Steps.{step_lines}
use Rattle.cn_json.specs.Course.{course_data, decisions_data}
use Rattle.cn_io.specs.Arguments.Lists.{GivesLists, inputs_of, schedule_of}
use Rattle.cn_io.specs.FaultText.{plain_of}
use Rattle.cn_app.specs.Forms.{if_json}
use Rattle.cn_io.specs.Steps.{Then}
use Rattle.cn_io.specs.Texts.Checked.{GivesChecked}
use Rattle.cn_io.specs.Texts.Plans.{GivesPlan}
use Rattle.cn_io.specs.declared.arguments.list_text.ListText.{ListText}
use Rattle.cn_io.specs.declared.readers.checked.Checked.{Checked}
use Rattle.cn_io.specs.declared.report.Outcome.TheVariants.{Whole}
use Rattle.cn_io.specs.declared.report.Report.{Report}
use Rattle.cn_app.specs.declared.reports.agree.AskedRun.{AskedRun}
use Rattle.cn_io.specs.declared.streams.text.Text.{Text}
use Rattle.cn_io.specs.declared.fault.AppFault.{AppFault}
use Rattle.cn_io.specs.declared.fault.AppFault.TheVariants.{OutOfMemory, Schedule}

-- the lines of the steps of the schedule, if they are asked for
abbrev pub lines_of_steps : Plan → List ℕ → List ℕ → Bool → List ℕ
lines_of_steps plan inputs schedule steps =
    if steps then step_lines plan.table (records_of plan inputs schedule) else []

-- what a run tells as JSON: the decisions, and each step if these are asked for
abbrev pub run_data : Plan → List ℕ → List ℕ → Bool → Data
run_data plan inputs schedule false = decisions_data (decisions_after plan inputs schedule)
run_data plan inputs schedule true = course_data plan.table (record {
  records = records_of plan inputs schedule;
  decisions = decisions_after plan inputs schedule;
})

-- the text of a run: the lines of the steps and then those of the decisions, or one JSON value
abbrev pub run_text : Plan → List ℕ → List ℕ → AskedRun → List ℕ
run_text plan inputs schedule asked = if_json asked.form
    (compact_text (run_data plan inputs schedule asked.steps) ++ codes "\n")
    (lines_of_steps plan inputs schedule asked.steps
    ++ decision_lines 0 (decisions_after plan inputs schedule))

-- the inputs and the schedule have no fault, the decisions are consensus, and this is the text of
-- the run
pub record IsAgreed (plan : Plan) (inputs schedule : List ℕ) (asked : AskedRun)
    (text : List ℕ) : Type 0 where
  pub run : schedule_fault (processes_of plan) inputs schedule ≡ None
  pub consensus : IsConsensus (protocol_of plan) (processes_of plan) inputs schedule
      (decisions_after plan inputs schedule)
  pub written : text ≡ run_text plan inputs schedule asked

-- the result of running a plan: the text of the run, or the first fault of the inputs and the
-- schedule
abbrev pub IsRunReport : Plan → List ℕ → List ℕ → AskedRun → Result Report AppFault → Type 0
IsRunReport plan inputs schedule asked (Ok report) =
    IsAgreed plan inputs schedule asked (string_bytes report.text) × (report.outcome ≡ Whole)
IsRunReport plan inputs schedule asked (Err e) = (e ≡ OutOfMemory)
    ⊎ IsSomeAnd (schedule_fault (processes_of plan) inputs schedule)
    (λ fault. e ≡ plain_of (Schedule fault))

-- the same for the plan of the certificate's witness
abbrev pub IsAgreeReport : Checked → List ℕ → List ℕ → AskedRun → Result Report AppFault → Type 0
IsAgreeReport checked inputs schedule asked r =
    Then (GivesPlan checked) (λ plan. IsRunReport plan inputs schedule asked) r

-- the result of `agree` for two texts and two lists: the lists are read first
abbrev pub HasAgreeReport : {R C : Type 0} → Text R → Text C → ListText → ListText → AskedRun
    → Result Report AppFault → Type 0
HasAgreeReport table certificate inputs schedule asked r = Then (GivesLists inputs schedule)
    (λ lists. Then (GivesChecked table certificate)
    (λ checked. IsAgreeReport checked lists.inputs.items lists.schedule.items asked)) r

-- the words spell inputs and a schedule
abbrev pub SpellLists : ListText → ListText → Type 0
SpellLists inputs schedule = IsSome (inputs_of inputs) × IsSome (schedule_of schedule)
