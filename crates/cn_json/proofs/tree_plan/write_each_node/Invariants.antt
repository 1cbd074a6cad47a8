use Rattle.std.proofs.Common.{◌≡◌, ◌++◌, map}
use Rattle.std.specs.List.{range_with_len}
use Rattle.cn_json.specs.Tokens.{each_value}
use Rattle.cn_json.specs.TreePlans.{node_data}
use Rattle.cn_json.proofs.tree_plan.write_each_node.Given as goal

-- the values so far
abbrev pub invariant-loop-node : goal.invariant-loop-node
invariant-loop-node l = l.out ≡ l.initial.out ++ each_value (map (node_data l.plan) (range_with_len 0 l.node))
