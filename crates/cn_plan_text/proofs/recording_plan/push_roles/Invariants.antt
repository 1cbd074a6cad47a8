use Rattle.std.proofs.Common.{◌≡◌, ◌++◌, flat_map, string_bytes}
use Rattle.std.specs.List.{range_with_len}
use Rattle.cn_plan_text.specs.RecordingPlans.{role_line}
use Rattle.cn_plan_text.proofs.recording_plan.push_roles.Given as goal

-- the roles so far
abbrev pub invariant-loop-role : goal.invariant-loop-role
invariant-loop-role l = string_bytes l.text ≡ string_bytes l.initial.text ++ flat_map (role_line l.plan) (range_with_len 0 l.role)
