-- What `show` writes of a shortest plan: a function of the plan, of the object and of the style.
use Rattle.std.specs.Prelude.{◌≡◌, ◌++◌, ℕ, List, None, Option, Some, Result, Ok, Err, codes}
use Rattle.std.specs.Prelude.{string_bytes}
use Rattle.serde_json.specs.Written.{compact_text}
use Rattle.cn_table.specs.TypeTable.{TypeTable}
use Rattle.cn_tree_plans.specs.Plan.{TreePlan}
use Rattle.cn_tree_text.specs.Dot.{plan_dot}
use Rattle.cn_tree_text.specs.Promela.{plan_promela}
use Rattle.cn_tree_text.specs.Text.{plan_text}
use Rattle.cn_code.specs.Served.{Served}
use Rattle.cn_code.specs.Trees.{tree_c_text, tree_header_text, tree_rust_text}
use Rattle.cn_json.specs.TreePlans.{tree_plan_data}
use Rattle.cn_io.specs.Steps.{Then}
use Rattle.cn_io.specs.Texts.Contents.{GivesObject, GivesTable}
use Rattle.cn_io.specs.Texts.ServedObjects.{GivesServed}
use Rattle.cn_io.specs.declared.report.Outcome.TheVariants.{Whole}
use Rattle.cn_io.specs.declared.report.Report.{Report}
use Rattle.cn_io.specs.declared.streams.text.Text.{Text}
use Rattle.cn_io.specs.declared.fault.AppFault.{AppFault}
use Rattle.cn_io.specs.declared.fault.AppFault.TheVariants.{OutOfMemory}
use Rattle.cn_app.specs.Commands.Shortest.{GivesShortestPlan}
use Rattle.cn_app.specs.declared.plan_style.PlanStyle.{PlanStyle}
use Rattle.cn_app.specs.declared.plan_style.PlanStyle.TheVariants as style
use Rattle.cn_app.specs.declared.reports.shortest.AskedPlan.{AskedPlan}

-- the text of a plan tree in each style; programs also have an object, if there is one
abbrev pub tree_text : PlanStyle → Option Served → TreePlan → List ℕ
tree_text style.Text object plan = plan_text plan
tree_text style.Json object plan = compact_text (tree_plan_data plan) ++ codes "\n"
tree_text style.Dot object plan = plan_dot plan
tree_text style.Promela object plan = plan_promela plan
tree_text style.Rust object plan = tree_rust_text plan object
tree_text style.C object plan = tree_c_text plan object None
tree_text (style.ExternalC prefix) object plan = tree_c_text plan object (Some prefix)
tree_text (style.Header prefix) object plan = tree_header_text plan object prefix

-- the result of writing a plan tree in a style, unless memory ran out
abbrev pub IsTreeReport : TreePlan → PlanStyle → Option Served → Result Report AppFault → Type 0
IsTreeReport plan style object (Ok report) =
    (string_bytes report.text ≡ tree_text style object plan) × (report.outcome ≡ Whole)
IsTreeReport plan style object (Err e) = e ≡ OutOfMemory

-- the same for the shortest plan of the table
abbrev pub IsShowShortestReport : TypeTable → AskedPlan → PlanStyle → Result Report AppFault
    → Type 0
IsShowShortestReport t asked style r =
    Then (GivesShortestPlan t asked) (λ plan. IsTreeReport plan style None) r

-- the same with an object, which starts in the state of this name
abbrev pub IsShowShortestObjectReport : TypeTable → TypeTable → List ℕ → AskedPlan → PlanStyle
    → Result Report AppFault → Type 0
IsShowShortestObjectReport t object start asked style r = Then (GivesShortestPlan t asked)
    (λ plan. Then (GivesServed object start)
    (λ served. IsTreeReport plan style (Some served))) r

-- the result of `show` on a shortest plan for a text
abbrev pub HasShowShortestReport : {R : Type 0} → Text R → AskedPlan → PlanStyle
    → Result Report AppFault → Type 0
HasShowShortestReport table asked style r =
    Then (GivesTable table) (λ t. IsShowShortestReport t asked style) r

-- the same for the texts of a table and of an object
abbrev pub HasShowShortestObjectReport : {R O : Type 0} → Text R → Text O → List ℕ → AskedPlan
    → PlanStyle → Result Report AppFault → Type 0
HasShowShortestObjectReport table object start asked style r = Then (GivesTable table)
    (λ t. Then (GivesObject object) (λ o. IsShowShortestObjectReport t o start asked style)) r
