use Rattle.std.proofs.Common.{ℕ}
use Rattle.cn_trees.specs.Tree.{IsOfType, PlanTree}
use Rattle.cn_tree_laws.specs.TreeProtocol.{tree_protocol}
use Rattle.cn_tree_laws.proofs.laws.trees_are_enough.Goals as goal

-- judgements are no part of this
judged_of : (T : PlanTree) (judge : ℕ → ℕ → ℕ → ℕ → ℕ) → IsOfType T → IsOfType (record T { judge = judge })
judged_of T judge of = record { starts = of.starts; operations = of.operations; sights = of.sights }

pub returns-clause-reads : goal.returns-clause-reads
returns-clause-reads c = λ T n closed of witnesses few. (
    let j = c.witnesses_make_plan_trees.ensures.judgement T witnesses in
    let of' = judged_of T j.0 of in
    let laws = c.plan_trees_are_protocols.ensures in
    (tree_protocol (record T { judge = j.0 }), laws.of_type (record T { judge = j.0 }) n of' few, laws.consensus (record T { judge = j.0 }) n closed of' j.1 few))

pub returns-clause-unread : goal.returns-clause-unread
returns-clause-unread c = λ T n closed of witnesses none few. (
    let j = c.witnesses_make_plan_trees.ensures.judgement T witnesses in
    let of' = judged_of T j.0 of in
    let laws = c.plan_trees_are_protocols.ensures in
    (tree_protocol (record T { judge = j.0 }), laws.of_type (record T { judge = j.0 }) n of' few, laws.unread (record T { judge = j.0 }) n none few, laws.consensus (record T { judge = j.0 }) n closed of' j.1 few))
