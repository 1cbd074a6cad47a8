use Rattle.std.proofs.Common.{ℕ, ◌<◌, slice_index_or}
use Rattle.cn_trees.specs.Tree.{members}
use Rattle.cn_tree_costs.specs.Nodes.{node_at}
use Rattle.cn_tree_plans.specs.Fitting.{FitsNode}
use Rattle.cn_tree_plans.specs.Plan.{no_meeting}
use Rattle.cn_tree_plans.specs.Teams.{teams_of}
use Rattle.cn_tree_plans.proofs.fitting.are_meetings.Given as goal

-- the nodes so far
abbrev pub invariant-loop-node : goal.invariant-loop-node
invariant-loop-node l = (v : ℕ) → v < l.node
    → FitsNode l.table (members (node_at (teams_of l.teams) v).teams) (slice_index_or l.meetings v no_meeting)
