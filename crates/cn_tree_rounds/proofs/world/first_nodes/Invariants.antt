use Rattle.std.proofs.Common.{◌≡◌, map}
use Rattle.std.specs.List.{range_with_len}
use Rattle.cn_tree_plans.specs.Plan.{meeting_in}
use Rattle.cn_tree_rounds.specs.Worlds.{fresh_node}
use Rattle.cn_tree_rounds.proofs.world.first_nodes.Given as goal

abbrev pub invariant-loop-node : goal.invariant-loop-node
invariant-loop-node l = l.nodes.items ≡ map (λ v. fresh_node (meeting_in l.plan.teams l.plan.meetings v).start) (range_with_len 0 l.node)
