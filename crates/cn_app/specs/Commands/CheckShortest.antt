-- What `check --shortest` writes: a function of the table and the certificate that it reads, and of
-- the form.
use Rattle.std.specs.Prelude.{◌≡◌, ◌⊎◌, ◌++◌, ℕ, List, codes, MatchResult, Result, Ok, Err, string_bytes}
use Rattle.serde_json.specs.Written.{compact_text}
use Rattle.cn_table.specs.TypeTable.{TypeTable}
use Rattle.cn_tree_plans.specs.Plan.{TreePlan}
use Rattle.cn_tree_text.specs.Text.{head_line}
use Rattle.cn_json.specs.TreeVerdict.{accepted_plan_data}
use Rattle.cn_form.specs.declared.answer_form.AnswerForm.{AnswerForm}
use Rattle.cn_app.specs.Commands.Check.{IsFaultReport}
use Rattle.cn_app.specs.Forms.{if_json}
use Rattle.cn_io.specs.Steps.{Then}
use Rattle.cn_io.specs.Texts.Contents.{GivesTable}
use Rattle.cn_io.specs.Texts.PlanTrees.{EndsTreeCheck}
use Rattle.cn_io.specs.declared.report.Outcome.TheVariants.{Whole}
use Rattle.cn_io.specs.declared.report.Report.{Report}
use Rattle.cn_io.specs.declared.streams.text.Text.{Text}
use Rattle.cn_io.specs.declared.fault.AppFault.{AppFault}
use Rattle.cn_io.specs.declared.fault.AppFault.TheVariants.{OutOfMemory}

-- what is written where the certificate of this plan is right: `ok`, and how short the plan is; or
-- the same as JSON
abbrev pub ok_plan_text : AnswerForm → TreePlan → List ℕ
ok_plan_text told plan = if_json told (compact_text (accepted_plan_data plan) ++ codes "\n")
    (codes "ok\n" ++ head_line plan)

-- the report on it; the only fault is want of memory
abbrev pub IsOkPlanReport : AnswerForm → TreePlan → Result Report AppFault → Type 0
IsOkPlanReport told plan (Ok report) =
    (string_bytes report.text ≡ ok_plan_text told plan) × (report.outcome ≡ Whole)
IsOkPlanReport told plan (Err e) = e ≡ OutOfMemory

-- the report on this verdict
abbrev pub IsPlanVerdictReport : AnswerForm → Result TreePlan AppFault → Result Report AppFault
    → Type 0
IsPlanVerdictReport told verdict r =
    MatchResult verdict (λ plan. IsOkPlanReport told plan r) (λ e. IsFaultReport told e r)

-- the result of reading a certificate and checking it against a table: it is right, and this is its
-- plan; or this is its fault
abbrev pub HasPlanVerdictReport : {C : Type 0} → Text C → AnswerForm → TypeTable
    → Result Report AppFault → Type 0
HasPlanVerdictReport certificate told t r = (verdict : Result TreePlan AppFault)
    × EndsTreeCheck t certificate verdict × IsPlanVerdictReport told verdict r

-- the result of `check --shortest` for two texts
abbrev pub HasCheckShortestReport : {R C : Type 0} → Text R → Text C → AnswerForm
    → Result Report AppFault → Type 0
HasCheckShortestReport table certificate told r =
    Then (GivesTable table) (λ t. HasPlanVerdictReport certificate told t) r
