use Rattle.std.proofs.Common.{ℕ, ◌≡◌, ◌<◌, true, refl, subst, arith}
use Rattle.cn_trees.specs.Tree.{members}
use Rattle.cn_tree_costs.specs.Nodes.{node_at}
use Rattle.cn_tree_costs.specs.Sizes.{HasSizes, sizes_of}
use Rattle.cn_tree_costs.proofs.Joining.{filled_alike, filled_is, filled_tree, joined}
use Rattle.cn_tree_costs.proofs.Splitting.{are_branches, split}
use Rattle.cn_tree_costs.proofs.laws.trees_are_joined.Goals as goal

pub returns-clause-split : goal.returns-clause-split
returns-clause-split c = λ t allowed n T some tree. (
    let h = split allowed T tree.witnesses tree.of_type tree.uniform (let e = tree.processes in omega arith) in
    (are_branches t allowed n T tree T.teams 1, h.0, h.1, h.2, subst (λ x. HasSizes x h.1 (sizes_of T.teams)) tree.table h.3, h.4))

pub returns-clause-joined : goal.returns-clause-joined
returns-clause-joined c = λ t allowed sight branches is has some are. joined t allowed sight branches is has some are

pub returns-clause-from_nodes : goal.returns-clause-from_nodes
returns-clause-from_nodes c = λ t allowed s sights some given. (
    let root = given 0 0 (omega arith, omega arith) in
    let part : (v : ℕ) → 0 < members (node_at s v).teams → (allowed (sights v) ≡ true) × HasSizes t (sights v) (sizes_of (node_at s v).teams) = λ v more. given v (node_at s v).first (omega arith, omega arith) in
    (filled_tree t allowed s sights root.1 root.0 part, filled_is t allowed s sights root.1 root.0 part, refl, filled_alike t allowed s sights root.1 root.0 part))
