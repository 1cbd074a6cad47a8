use Rattle.std.proofs.Common.{ℕ, ◌≤◌, sym, subst}
use Rattle.cn_trees.specs.FullTrees.{full, parting_tree}
use Rattle.cn_trees.specs.Tree.{processes_of}
use Rattle.cn_tree_laws.specs.TreeProtocol.{tree_protocol}
use Rattle.cn_tree_laws.proofs.Parting.{enough, parting_of}
use Rattle.cn_tree_laws.proofs.laws.parting_operations_are_enough.Goals as goal

pub returns-clause-reads : goal.returns-clause-reads
returns-clause-reads c = λ t k w closed two part of n. (
    let T = parting_tree t (full k n) w in
    let full_tree = c.parting_operations_make_plan_trees.ensures in
    let laws = c.plan_trees_are_protocols.ensures in
    let of' = parting_of t k n w (full_tree.teams k n) of in
    let few : n ≤ processes_of T = subst (λ (m : ℕ). n ≤ m) (sym (full_tree.processes t k n w)) (enough k n two) in
    (tree_protocol T, laws.of_type T n of' few, laws.consensus T n closed of' (full_tree.tree t k n w part) few))

pub returns-clause-unread : goal.returns-clause-unread
returns-clause-unread c = λ t k w closed two part of unseen n. (
    let T = parting_tree t (full k n) w in
    let full_tree = c.parting_operations_make_plan_trees.ensures in
    let laws = c.plan_trees_are_protocols.ensures in
    let of' = parting_of t k n w (full_tree.teams k n) of in
    let few : n ≤ processes_of T = subst (λ (m : ℕ). n ≤ m) (sym (full_tree.processes t k n w)) (enough k n two) in
    (tree_protocol T, laws.of_type T n of' few, laws.unread T n (λ node p came. unseen) few, laws.consensus T n closed of' (full_tree.tree t k n w part) few))
