use Rattle.std.proofs.Common.{◌≡◌, ◌*◌, ◌≤◌}
use Rattle.cn_trees.specs.Consensus.{steps_before}
use Rattle.cn_tree_plans.specs.Plan.{tree_of}
use Rattle.cn_tree_plans.proofs.plan.TreePlan.steps.Given as goal

-- the steps at the places so far
abbrev pub invariant-loop-place : goal.invariant-loop-place
invariant-loop-place l = record {
  exact : l.steps ≡ steps_before (tree_of l.self) l.process l.place-index;
  least : 3 * l.place-index ≤ l.steps;
  most : l.steps ≤ 4 * l.place-index;
}
