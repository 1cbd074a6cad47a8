use Rattle.std.proofs.Common.{arith, subst, sym}
use Rattle.cn_tree_costs.specs.Nodes.{node_at}
use Rattle.cn_tree_costs.specs.Sizes.{HasSizes, sizes_of}
use Rattle.cn_tree_costs.proofs.NodesOf.{among_comes, comes_among, team_of_node}
use Rattle.cn_tree_costs.proofs.SubTrees.{sub_tree}
use Rattle.cn_tree_costs.proofs.Witnesses.{sizes_at}
use Rattle.cn_tree_costs.proofs.laws.nodes_are_trees.Goals as goal

pub returns-clause-processes : goal.returns-clause-processes
returns-clause-processes c = λ s v p. (comes_among s v p, among_comes s v p)

pub returns-clause-teams : goal.returns-clause-teams
returns-clause-teams c = λ s v p came. team_of_node s v p came

pub returns-clause-sub_tree : goal.returns-clause-sub_tree
returns-clause-sub_tree c = λ t allowed n v T tree. sub_tree t allowed n T v tree

pub returns-clause-sizes : goal.returns-clause-sizes
returns-clause-sizes c = λ t allowed n v p T tree came. (
    let one = tree.uniform v in
    let among = comes_among T.teams v p came in
    let a = among.0 in let b = among.1 in
    subst (λ x. HasSizes x ((T.meeting v).sight p) (sizes_of (node_at T.teams v).teams)) tree.table
    (subst (λ k. HasSizes T.table k (sizes_of (node_at T.teams v).teams)) (sym (one.2 p came)) (sizes_at T tree.witnesses tree.of_type v one.0 one.2 (omega arith))))
