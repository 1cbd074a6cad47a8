use Rattle.std.proofs.Common.{◌≡◌, ◌++◌, flat_map, string_bytes, take}
use Rattle.cn_text.specs.Ways.{step_text}
use Rattle.cn_text.proofs.ways.push_steps.Given as goal

-- the steps so far
abbrev pub invariant-loop-step : goal.invariant-loop-step
invariant-loop-step l = string_bytes l.text ≡ string_bytes l.initial.text ++ flat_map (step_text l.table l.answered) (take l.step-index l.steps)
