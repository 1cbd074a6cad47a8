use Rattle.cn_tree_costs.proofs.Growing.{tree_of_group}
use Rattle.cn_tree_costs.proofs.Tables.{group_of_tree}
use Rattle.cn_tree_costs.proofs.laws.outlines_are_trees.Goals as goal

pub returns-clause-tree : goal.returns-clause-tree
returns-clause-tree c = λ t allowed sight o are. tree_of_group t allowed sight o are

pub returns-clause-outline : goal.returns-clause-outline
returns-clause-outline c = λ t allowed n T two tree. group_of_tree t allowed n T two tree
