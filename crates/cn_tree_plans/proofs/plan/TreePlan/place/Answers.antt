use Rattle.std.proofs.Common.{arith}
use Rattle.cn_tree_plans.proofs.PlanLemmas.{node_there}
use Rattle.cn_tree_plans.proofs.plan.TreePlan.place.Goals as goal

pub overflow_sub-result : goal.overflow_sub-result
overflow_sub-result c =
    let among = (c.nodes_are_trees.ensures.processes c.args.self.now.teams c.args.node c.args.process).0 c.requires in
    let a = among.0 in
    omega arith

pub returns-clause-node : goal.returns-clause-node
returns-clause-node c = node_there c.args.self.now.teams c.args.node c.args.process c.requires

pub returns-clause-inside : goal.returns-clause-inside
returns-clause-inside c =
    let among = (c.nodes_are_trees.ensures.processes c.args.self.now.teams c.args.node c.args.process).0 c.requires in
    let a = among.0 in
    let b = among.1 in
    omega arith
