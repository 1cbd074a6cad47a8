use Rattle.std.proofs.Common.{◌≡◌, ◌++◌, map}
use Rattle.std.specs.List.{range_with_len}
use Rattle.cn_json.specs.RecordingPlans.{judged_state_data}
use Rattle.cn_json.specs.Tokens.{each_value}
use Rattle.cn_json.proofs.recording_plan.write_each_judged.Given as goal

-- the values so far
abbrev pub invariant-loop-state : goal.invariant-loop-state
invariant-loop-state l = l.out ≡ l.initial.out ++ each_value (map (judged_state_data l.plan) (range_with_len 0 l.state))
