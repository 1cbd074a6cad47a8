use Rattle.std.proofs.Common.{◌≡◌, ◌*◌, ◌≤◌}
use Rattle.cn_trees.specs.Consensus.{steps_of}
use Rattle.cn_tree_costs.specs.Cost.{greatest, total}
use Rattle.cn_tree_plans.specs.Plan.{tree_of}
use Rattle.cn_tree_plans.proofs.plan.TreePlan.cost.Given as goal

-- those of the processes so far
abbrev pub invariant-loop-process : goal.invariant-loop-process
invariant-loop-process l = record {
  steps : l.steps ≡ greatest (steps_of (tree_of l.self)) l.process;
  sum : l.sum ≡ total (steps_of (tree_of l.self)) l.process;
  few : l.sum ≤ 28 * l.process;
}
