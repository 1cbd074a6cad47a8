use Rattle.cn_tree_plans.specs.Made.{AreNodeLists}
use Rattle.cn_tree_plans.specs.Teams.{teams_of}
use Rattle.cn_tree_plans.proofs.making.all_judged.Given as goal

-- the lists of the nodes so far
abbrev pub invariant-loop-node : goal.invariant-loop-node
invariant-loop-node l = AreNodeLists l.table (teams_of l.teams) l.meetings l.node l.judged.items
