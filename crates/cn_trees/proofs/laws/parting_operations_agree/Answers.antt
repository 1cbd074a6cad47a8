use Rattle.std.proofs.Common.{arith}
use Rattle.cn_trees.specs.FullTrees.{full, parting_tree}
use Rattle.cn_trees.proofs.laws.parting_operations_agree.Goals as goal

pub returns-clause-consensus : goal.returns-clause-consensus
returns-clause-consensus g c = λ t k h n w part few inputs schedule all. (
    let trees = c.parting_operations_make_plan_trees.ensures in
    let size = trees.processes t k h w in
    c.plan_trees_agree.ensures (parting_tree t (full k h) w) n (trees.tree t k h w part) (omega arith) inputs schedule all)

pub returns-clause-steps : goal.returns-clause-steps
returns-clause-steps g c = λ t k h p w. (
    let m = c.steps_of_plan_trees.ensures.most (parting_tree t (full k h) w) p in
    let l = c.steps_of_plan_trees.ensures.levels (parting_tree t (full k h) w) p in
    let n = c.parting_operations_make_plan_trees.ensures.levels k h in omega arith)
