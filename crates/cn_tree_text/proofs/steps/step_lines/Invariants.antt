use Rattle.std.proofs.Common.{◌≡◌, ◌++◌, drop, string_bytes}
use Rattle.cn_tree_text.specs.Steps.{step_lines}
use Rattle.cn_tree_text.proofs.steps.step_lines.Given as goal

abbrev pub invariant-loop-step : goal.invariant-loop-step
invariant-loop-step l = string_bytes l.lines ++ step_lines l.table (drop l.step-index l.steps) ≡ step_lines l.table l.steps
