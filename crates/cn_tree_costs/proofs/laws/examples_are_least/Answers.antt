use Rattle.std.proofs.Common.{◌≤◌, ◌*◌, true, refl, sym, ap, subst, arith, le_of_eq}
use Rattle.cn_meetings.specs.Examples.{compare_and_swap, sticky_bit}
use Rattle.cn_meetings.specs.Meeting.Sight.{Nothing}
use Rattle.cn_trees.specs.Consensus.{steps_of}
use Rattle.cn_trees.specs.Examples.{four_of_a_sticky_bit, one_compare_and_swap}
use Rattle.cn_trees.specs.FullTrees.{full}
use Rattle.cn_trees.specs.Tree.{processes_of, team_in}
use Rattle.cn_tree_costs.specs.Cost.{Cost, IsTreeFor, total}
use Rattle.cn_tree_costs.proofs.Numbers.{greatest_within, total_each}
use Rattle.cn_tree_costs.proofs.LeastExamples.{four_least, one_node}
use Rattle.cn_tree_costs.proofs.laws.examples_are_least.Goals as goal

pub returns-clause-one_node : goal.returns-clause-one_node
returns-clause-one_node c = λ t allowed n T two tree e. (
    one_node t allowed n T two tree (le_of_eq (ap (λ (x : Cost). x.steps) e)) (le_of_eq (ap (λ (x : Cost). x.nodes) e)) (le_of_eq (ap (λ (x : Cost). x.sum) e)))

pub returns-clause-compare_and_swap : goal.returns-clause-compare_and_swap
returns-clause-compare_and_swap c = λ k two. (
    let one = c.one_node_of_compare_and_swap.ensures in
    let of = (c.examples_are_of_types.ensures.compare_and_swap k).1 in
    let size = one.processes k in
    let tree : IsTreeFor (compare_and_swap k) (λ sight. true) k (one_compare_and_swap k) = record {
      table = refl;
      processes = one.processes k;
      witnesses = c.witnesses_make_plan_trees.ensures.witnesses (one_compare_and_swap k) (one.tree k);
      of_type = record {
        starts = λ node. of.start;
        operations = λ node p h. of.operations (team_in (full k 0) node p) (c.parting_operations_make_plan_trees.ensures.teams k 0 node p h);
        sights = λ node p h. tt;
      };
      uniform = λ node. (Nothing, refl, λ p h. refl);
    } in
    one_node (compare_and_swap k) (λ sight. true) k (one_compare_and_swap k) two tree
    (greatest_within (steps_of (one_compare_and_swap k)) (processes_of (one_compare_and_swap k)) 3 (λ p lt. le_of_eq (one.steps k p (omega arith))))
    (le_of_eq (one.nodes k))
    (subst (λ m. total (steps_of (one_compare_and_swap k)) m ≤ k * 3) (sym size) (le_of_eq (total_each (steps_of (one_compare_and_swap k)) 3 k (λ p lt. one.steps k p lt)))))

pub returns-clause-sticky_bit : goal.returns-clause-sticky_bit
returns-clause-sticky_bit c = (
    let four = c.four_processes_of_a_sticky_bit.ensures in
    let of = c.examples_are_of_types.ensures.sticky_bit.1 in
    let tree : IsTreeFor sticky_bit (λ sight. true) 4 four_of_a_sticky_bit = record {
      table = refl;
      processes = four.processes;
      witnesses = c.witnesses_make_plan_trees.ensures.witnesses four_of_a_sticky_bit four.tree;
      of_type = record {
        starts = λ node. of.start;
        operations = λ node p h. of.operations (team_in (full 2 1) node p) (c.parting_operations_make_plan_trees.ensures.teams 2 1 node p h);
        sights = λ node p h. tt;
      };
      uniform = λ node. (Nothing, refl, λ p h. refl);
    } in
    four_least sticky_bit (λ sight. true) four_of_a_sticky_bit refl tree
    (greatest_within (steps_of four_of_a_sticky_bit) 4 6 (λ p lt. le_of_eq (four.steps p lt)))
    (le_of_eq four.nodes)
    (le_of_eq (total_each (steps_of four_of_a_sticky_bit) 6 4 (λ p lt. four.steps p lt))))
