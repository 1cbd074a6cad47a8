use Rattle.std.proofs.Common.{◌≡◌, ◌++◌, drop, string_bytes}
use Rattle.cn_plan_text.specs.Decisions.{decision_lines}
use Rattle.cn_plan_text.proofs.decisions.decision_lines.Given as goal

abbrev pub invariant-loop-process : goal.invariant-loop-process
invariant-loop-process l = string_bytes l.lines ++ decision_lines l.process (drop l.process l.decisions) ≡ decision_lines 0 l.decisions
