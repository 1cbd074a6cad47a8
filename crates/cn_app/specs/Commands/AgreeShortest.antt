-- What `agree` writes of a shortest plan: a function of the plan, the inputs, the schedule and what is asked
-- for.
use Rattle.std.specs.Prelude.{◌≡◌, ◌⊎◌, ◌++◌, ℕ, Bool, if◌then◌else◌, List, [], None}
use Rattle.std.specs.Prelude.{Result, Ok, Err, IsSomeAnd, codes, false, string_bytes, true}
use Rattle.serde_json.specs.Data.{Data}
use Rattle.serde_json.specs.Written.{compact_text}
use Rattle.cn_table.specs.TypeTable.{TypeTable}
use Rattle.cn_agree.specs.Schedules.{schedule_fault}
use Rattle.cn_trees.specs.Tree.{processes_of}
use Rattle.cn_tree_plans.specs.Plan.{TreePlan, tree_of}
use Rattle.cn_tree_rounds.specs.Actions.{records_of}
use Rattle.cn_tree_rounds.specs.Consensus.{IsConsensus}
use Rattle.cn_tree_rounds.specs.Schedules.{decisions_after}
use Rattle.cn_plan_text.specs.Decisions.{decision_lines}
use Rattle.cn_tree_text.specs.Steps.{step_lines}
use Rattle.cn_json.specs.Course.{decisions_data}
use Rattle.cn_json.specs.TreeCourses.{tree_course_data}
use Rattle.cn_io.specs.Arguments.Lists.{GivesLists}
use Rattle.cn_io.specs.FaultText.{plain_of}
use Rattle.cn_io.specs.Steps.{Then}
use Rattle.cn_io.specs.Texts.Contents.{GivesTable}
use Rattle.cn_io.specs.declared.arguments.list_text.ListText.{ListText}
use Rattle.cn_io.specs.declared.report.Outcome.TheVariants.{Whole}
use Rattle.cn_io.specs.declared.report.Report.{Report}
use Rattle.cn_io.specs.declared.streams.text.Text.{Text}
use Rattle.cn_io.specs.declared.fault.AppFault.{AppFault}
use Rattle.cn_io.specs.declared.fault.AppFault.TheVariants.{OutOfMemory, Schedule}
use Rattle.cn_app.specs.Commands.Shortest.{GivesShortestPlan}
use Rattle.cn_app.specs.Forms.{if_json}
use Rattle.cn_app.specs.declared.reports.agree.AskedRun.{AskedRun}
use Rattle.cn_app.specs.declared.reports.shortest.AskedPlan.{AskedPlan}

-- the lines of the steps of the schedule, if they are asked for
abbrev pub lines_of_tree_steps : TreePlan → List ℕ → List ℕ → Bool → List ℕ
lines_of_tree_steps plan inputs schedule steps =
    if steps then step_lines plan.table (records_of plan inputs schedule) else []

-- what a run tells as JSON: the decisions, and each step if these are asked for
abbrev pub tree_run_data : TreePlan → List ℕ → List ℕ → Bool → Data
tree_run_data plan inputs schedule false = decisions_data (decisions_after plan inputs schedule)
tree_run_data plan inputs schedule true = tree_course_data plan.table (record {
  records = records_of plan inputs schedule;
  decisions = decisions_after plan inputs schedule;
})

-- the text of a run: the lines of the steps and then those of the decisions, or one JSON value
abbrev pub tree_run_text : TreePlan → List ℕ → List ℕ → AskedRun → List ℕ
tree_run_text plan inputs schedule asked = if_json asked.form
    (compact_text (tree_run_data plan inputs schedule asked.steps) ++ codes "\n")
    (lines_of_tree_steps plan inputs schedule asked.steps
    ++ decision_lines 0 (decisions_after plan inputs schedule))

-- the inputs and the schedule have no fault, the decisions are consensus, and this is the text of
-- the run
pub record IsTreeAgreed (plan : TreePlan) (inputs schedule : List ℕ) (asked : AskedRun)
    (text : List ℕ) : Type 0 where
  pub run : schedule_fault (processes_of (tree_of plan)) inputs schedule ≡ None
  pub consensus : IsConsensus plan inputs schedule (decisions_after plan inputs schedule)
  pub written : text ≡ tree_run_text plan inputs schedule asked

-- the result of running a plan tree: the text of the run, or the first fault of the inputs and the
-- schedule
abbrev pub IsTreeRunReport : TreePlan → List ℕ → List ℕ → AskedRun → Result Report AppFault → Type 0
IsTreeRunReport plan inputs schedule asked (Ok report) =
    IsTreeAgreed plan inputs schedule asked (string_bytes report.text) × (report.outcome ≡ Whole)
IsTreeRunReport plan inputs schedule asked (Err e) = (e ≡ OutOfMemory)
    ⊎ IsSomeAnd (schedule_fault (processes_of (tree_of plan)) inputs schedule)
    (λ fault. e ≡ plain_of (Schedule fault))

-- the same for the shortest plan of the table
abbrev pub IsAgreeShortestReport : TypeTable → AskedPlan → List ℕ → List ℕ → AskedRun
    → Result Report AppFault → Type 0
IsAgreeShortestReport t which inputs schedule asked r =
    Then (GivesShortestPlan t which) (λ plan. IsTreeRunReport plan inputs schedule asked) r

-- the result of `agree` on a shortest plan for a text and two lists: the lists are read first
abbrev pub HasAgreeShortestReport : {R : Type 0} → Text R → ListText → ListText → AskedPlan
    → AskedRun → Result Report AppFault → Type 0
HasAgreeShortestReport table inputs schedule which asked r = Then (GivesLists inputs schedule)
    (λ lists. Then (GivesTable table)
    (λ t. IsAgreeShortestReport t which lists.inputs.items lists.schedule.items asked)) r
