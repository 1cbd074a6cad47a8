use Rattle.std.proofs.Common.{◌≡◌, ◌-◌, ◌++◌, map}
use Rattle.std.specs.List.{range_with_len}
use Rattle.cn_json.specs.Tokens.{each_value}
use Rattle.cn_json.specs.TreePlans.{member_data}
use Rattle.cn_json.proofs.tree_plan.write_each_member.Given as goal

-- the values so far
abbrev pub invariant-loop-process : goal.invariant-loop-process
invariant-loop-process l = l.out ≡ l.initial.out ++ each_value (map (member_data l.plan l.node) (range_with_len l.first (l.process - l.first)))
