use Rattle.std.proofs.Common.{◌≡◌, map, take}
use Rattle.cn_tree_check.specs.Right.{meeting_of}
use Rattle.cn_tree_check.specs.Sizes.{all_sizes, teams_at}
use Rattle.cn_tree_check.proofs.maker.all_nodes.Given as goal

-- the nodes so far
abbrev pub invariant-loop-node : goal.invariant-loop-node
invariant-loop-node l = record {
  meetings : map meeting_of l.nodes.items ≡ take l.node l.plan.meetings;
  teams : teams_at l.nodes.items ≡ take l.node (all_sizes l.plan.teams);
}
