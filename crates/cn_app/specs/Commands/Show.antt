-- What `show` writes: a function of the table, the certificate and the object that it reads, and of
-- the style.
use Rattle.std.specs.Prelude.{◌≡◌, ℕ, List, ◌++◌, None, Option, Some, Result, Ok, Err, codes}
use Rattle.std.specs.Prelude.{string_bytes}
use Rattle.cn_proto.specs.Plan.{Plan}
use Rattle.cn_proto.specs.PlanText.{plan_text}
use Rattle.cn_code.specs.Code.{c_text, header_text, rust_text}
use Rattle.cn_code.specs.Served.{Served}
use Rattle.cn_json.specs.Plans.{plan_data}
use Rattle.cn_plan_text.specs.Dot.{plan_dot}
use Rattle.cn_plan_text.specs.Promela.{plan_promela}
use Rattle.serde_json.specs.Written.{compact_text}
use Rattle.cn_io.specs.Steps.{Then}
use Rattle.cn_io.specs.Texts.Checked.{GivesChecked}
use Rattle.cn_io.specs.Texts.Plans.{GivesPlan}
use Rattle.cn_io.specs.Texts.ServedObjects.{GivesServedPlan}
use Rattle.cn_io.specs.declared.readers.checked.Checked.{Checked}
use Rattle.cn_io.specs.declared.report.Outcome.TheVariants.{Whole}
use Rattle.cn_io.specs.declared.report.Report.{Report}
use Rattle.cn_io.specs.declared.streams.text.Text.{Text}
use Rattle.cn_io.specs.declared.fault.AppFault.{AppFault}
use Rattle.cn_io.specs.declared.fault.AppFault.TheVariants.{OutOfMemory}
use Rattle.cn_app.specs.declared.plan_style.PlanStyle.{PlanStyle}
use Rattle.cn_app.specs.declared.plan_style.PlanStyle.TheVariants as style

-- the text of a plan in each style; programs also have an object, if there is one
abbrev pub form_text : PlanStyle → Option Served → Plan → List ℕ
form_text style.Text object plan = plan_text plan
form_text style.Json object plan = compact_text (plan_data plan) ++ codes "\n"
form_text style.Dot object plan = plan_dot plan
form_text style.Promela object plan = plan_promela plan
form_text style.Rust object plan = rust_text plan object
form_text style.C object plan = c_text plan object None
form_text (style.ExternalC prefix) object plan = c_text plan object (Some prefix)
form_text (style.Header prefix) object plan = header_text plan object prefix

-- the result of writing a plan in a style, unless memory ran out
abbrev pub IsFormReport : Plan → PlanStyle → Option Served → Result Report AppFault → Type 0
IsFormReport plan style object (Ok report) =
    (string_bytes report.text ≡ form_text style object plan) × (report.outcome ≡ Whole)
IsFormReport plan style object (Err e) = e ≡ OutOfMemory

-- the same for the plan of the certificate's witness
abbrev pub IsShowReport : Checked → PlanStyle → Result Report AppFault → Type 0
IsShowReport checked style r =
    Then (GivesPlan checked) (λ plan. IsFormReport plan style None) r

-- the result of `show` for two texts
abbrev pub HasShowReport : {R C : Type 0} → Text R → Text C → PlanStyle → Result Report AppFault
    → Type 0
HasShowReport table certificate style r =
    Then (GivesChecked table certificate) (λ checked. IsShowReport checked style) r

-- the result of `show` for three texts and the name of the state in which the object starts
abbrev pub HasShowObjectReport : {R C O : Type 0} → Text R → Text C → Text O → List ℕ → PlanStyle
    → Result Report AppFault → Type 0
HasShowObjectReport table certificate object start style r =
    Then (GivesServedPlan table certificate object start)
    (λ served. IsFormReport served.plan style (Some served.object)) r
