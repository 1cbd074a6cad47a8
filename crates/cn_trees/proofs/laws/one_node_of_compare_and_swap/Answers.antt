use Rattle.std.proofs.Common.{ℕ, ◌+◌, ◌*◌, refl, ap, ◌∙◌}
use Rattle.cn_meetings.specs.Examples.{compare_and_swap, swaps}
use Rattle.cn_trees.specs.Examples.{one_compare_and_swap}
use Rattle.cn_trees.proofs.Examples.{no_node_below, one_place_each}
use Rattle.cn_trees.proofs.FullTrees.{singles_are}
use Rattle.cn_trees.proofs.laws.one_node_of_compare_and_swap.Goals as goal

pub returns-clause-tree : goal.returns-clause-tree
returns-clause-tree c = λ k. c.parting_operations_make_plan_trees.ensures.tree (compare_and_swap k) k 0 (swaps k) (c.examples_of_parting_operations.ensures.compare_and_swap k)

pub returns-clause-processes : goal.returns-clause-processes
returns-clause-processes c = λ k. (singles_are k).0

pub returns-clause-nodes : goal.returns-clause-nodes
returns-clause-nodes c = λ k. ap (λ (n : ℕ). 1 + n) (no_node_below k)

pub returns-clause-steps : goal.returns-clause-steps
returns-clause-steps c = λ k p lt. c.steps_of_plan_trees.ensures.three (one_compare_and_swap k) p (λ node. refl) ∙ ap (λ (n : ℕ). 3 * n) (one_place_each k 0 0 1 p lt)
