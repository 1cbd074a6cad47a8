use Rattle.std.proofs.Common.{◌≡◌, ◌++◌, drop, string_bytes}
use Rattle.cn_plan_text.specs.Log.{answer_lines}
use Rattle.cn_plan_text.proofs.log.answer_lines.Given as goal

abbrev pub invariant-loop-end : goal.invariant-loop-end
invariant-loop-end l = string_bytes l.lines ++ answer_lines l.object (drop l.end-index l.ends) ≡ answer_lines l.object l.ends
