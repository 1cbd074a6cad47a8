use Rattle.std.proofs.Common.{refl}
use Rattle.cn_tree_plans.proofs.plan.TreePlan.new.Goals as goal

pub invariant_of-result : goal.invariant_of-result
invariant_of-result c =
    let all = rw c.deref.ensures.value at c.in_ok-judged.ensures in
    (rw c.in_ok-table.ensures all.1, c.in_ok-paths.ensures)

pub returns : goal.returns
returns c =
    let all = rw c.deref.ensures.value at c.in_ok-judged.ensures in
    (c.in_ok-table.ensures, refl, refl, rw c.in_ok-table.ensures all.0)
