use Rattle.cn_tree_text.proofs.places.nodes_have_members.Goals as goal

pub returns : goal.returns
returns c = λ v p. c.nodes_are_trees.ensures.processes c.args.plan.now.teams v p
