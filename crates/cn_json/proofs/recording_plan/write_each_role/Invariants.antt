use Rattle.std.proofs.Common.{◌≡◌, ◌++◌, map}
use Rattle.std.specs.List.{range_with_len}
use Rattle.cn_json.specs.RecordingPlans.{life_role_data}
use Rattle.cn_json.specs.Tokens.{each_value}
use Rattle.cn_json.proofs.recording_plan.write_each_role.Given as goal

-- the values so far
abbrev pub invariant-loop-role : goal.invariant-loop-role
invariant-loop-role l = l.out ≡ l.initial.out ++ each_value (map (life_role_data l.plan) (range_with_len 0 l.role))
