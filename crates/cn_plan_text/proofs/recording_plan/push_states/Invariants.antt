use Rattle.std.proofs.Common.{◌≡◌, ◌++◌, flat_map, string_bytes}
use Rattle.std.specs.List.{range_with_len}
use Rattle.cn_plan_text.specs.RecordingPlans.{judged_text}
use Rattle.cn_plan_text.proofs.recording_plan.push_states.Given as goal

-- the states so far
abbrev pub invariant-loop-state : goal.invariant-loop-state
invariant-loop-state l = string_bytes l.text ≡ string_bytes l.initial.text ++ flat_map (judged_text l.plan l.side) (range_with_len 0 l.state)
