use Rattle.cn_tree_plans.specs.Teams.{teams_of}
use Rattle.cn_tree_plans.proofs.PlanLemmas.{ArePathsSoFar}
use Rattle.cn_tree_plans.proofs.path.all_paths.Given as goal

-- the paths of the processes so far
abbrev pub invariant-loop-process : goal.invariant-loop-process
invariant-loop-process l = ArePathsSoFar (teams_of l.teams) l.process l.paths.items
