-- How a plan is written: its form, and the names of a program in C.
use Rattle.std.specs.Prelude.{◌≡◌, ◌⊎◌, ℕ, true, false, List, Result, Ok, Err}
use Rattle.cn_code.specs.Prefix.{is_prefix}
use Rattle.cn_form.specs.declared.plan_form.PlanForm.{PlanForm}
use Rattle.cn_form.specs.declared.plan_form.PlanForm.TheVariants as form
use Rattle.cn_app.specs.declared.plan_style.PlanStyle.{PlanStyle}
use Rattle.cn_app.specs.declared.plan_style.PlanStyle.TheVariants as style
use Rattle.cn_io.specs.declared.fault.AppFault.{AppFault}
use Rattle.cn_io.specs.declared.fault.AppFault.TheVariants.{Argument, OutOfMemory}
use Rattle.cn_io.specs.declared.fault.Argument.TheVariants.{Prefix}

-- the style of a form without a prefix
abbrev pub plain_style : PlanForm → PlanStyle
plain_style form.Text = style.Text
plain_style form.Json = style.Json
plain_style form.Dot = style.Dot
plain_style form.Promela = style.Promela
plain_style form.Rust = style.Rust
plain_style form.C = style.C

-- the word is a prefix, or is refused, unless memory ran out
abbrev pub GivesPrefix : List ℕ → Result (List ℕ) AppFault → Type 0
GivesPrefix word (Ok prefix) = (is_prefix word ≡ true) × (prefix ≡ word)
GivesPrefix word (Err e) = (e ≡ OutOfMemory) ⊎ ((e ≡ Argument Prefix) × (is_prefix word ≡ false))
