use Rattle.std.proofs.Common.{ℕ, ◌*◌, refl, ap, ◌∙◌}
use Rattle.cn_meetings.specs.Examples.{puts, sticky_bit}
use Rattle.cn_trees.specs.Examples.{four_of_a_sticky_bit}
use Rattle.cn_trees.proofs.Examples.{path_of_four}
use Rattle.cn_trees.proofs.laws.four_processes_of_a_sticky_bit.Goals as goal

pub returns-clause-tree : goal.returns-clause-tree
returns-clause-tree c = c.parting_operations_make_plan_trees.ensures.tree sticky_bit 2 1 puts c.examples_of_parting_operations.ensures.sticky_bit

pub returns-clause-processes : goal.returns-clause-processes
returns-clause-processes c = refl

pub returns-clause-nodes : goal.returns-clause-nodes
returns-clause-nodes c = refl

pub returns-clause-steps : goal.returns-clause-steps
returns-clause-steps c = λ p lt. c.steps_of_plan_trees.ensures.three four_of_a_sticky_bit p (λ node. refl) ∙ ap (λ (n : ℕ). 3 * n) (path_of_four p lt)

pub returns-clause-decided : goal.returns-clause-decided
returns-clause-decided c = refl

pub returns-clause-follows : goal.returns-clause-follows
returns-clause-follows c = refl

pub returns-clause-undecided : goal.returns-clause-undecided
returns-clause-undecided c = refl
