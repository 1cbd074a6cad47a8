use Rattle.cn_tree_costs.proofs.Tables.{cost_of_least, least_plan, load_of_tree, some_tree, tree_of_load}
use Rattle.cn_tree_costs.proofs.laws.loads_are_least_costs.Goals as goal

pub returns-clause-tree : goal.returns-clause-tree
returns-clause-tree c = λ t allowed most top n b best x roots are is two ln lb e. (let r = tree_of_load t allowed most top best roots are is n b x two ln lb e in (r.tree, r.is, r.within, r.nodes_are, r.sum_is))

pub returns-clause-least : goal.returns-clause-least
returns-clause-least c = λ t allowed most top n b best T roots are is one ln lb tree within. load_of_tree t allowed most top best roots are is n b T one ln lb tree within

pub returns-clause-plan : goal.returns-clause-plan
returns-clause-plan c = λ t allowed most top n b best x roots are is two ln lb e first. least_plan t allowed most top best roots are is n b x two ln lb e first

pub returns-clause-costs : goal.returns-clause-costs
returns-clause-costs c = λ t allowed most top n b best x T roots are is two ln lb e first least. cost_of_least t allowed most top best roots are is n b x two ln lb e first T least

pub returns-clause-some_tree : goal.returns-clause-some_tree
returns-clause-some_tree c = λ t allowed most top n best roots are is two ln lb. some_tree t allowed most top best roots are is n two ln lb
