use Rattle.std.proofs.Common.{◌≡◌}
use Rattle.cn_tree_costs.specs.Cost.{greatest}
use Rattle.cn_code.specs.Trees.{teams_at}
use Rattle.cn_code.proofs.tree.head.most_teams.Given as goal

-- the most of the nodes so far
abbrev pub invariant-loop-node : goal.invariant-loop-node
invariant-loop-node l = l.most ≡ greatest (teams_at l.plan) l.node
