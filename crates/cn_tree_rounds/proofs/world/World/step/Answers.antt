use Rattle.cn_tree_rounds.proofs.Stepping.{kept, stepped}
use Rattle.cn_tree_rounds.proofs.world.World.step.Goals as goal

pub returns-in-Some-clause-world : goal.returns-in-Some-clause-world
returns-in-Some-clause-world c =
    stepped c.args.plan.now c.tree_plans_are_right.ensures.plan c.args.self.now.nodes.items c.args.self.now.locals.items c.requires.of_plan c.args.process c.requires.process c.in-Some.turn c.in-Some.ensures
    _ c.act.new.node c.act.result c.from.result c.from-in-Some.result c.from.ensures c.from-in-Some.ensures c.index_mut-node.ensures.value c.act.ensures.node c.act.ensures.local

pub returns-in-Some-clause-of_plan : goal.returns-in-Some-clause-of_plan
returns-in-Some-clause-of_plan c =
    kept c.args.plan.now c.tree_plans_are_right.ensures.plan c.args.self.now.nodes.items c.args.self.now.locals.items c.requires.of_plan c.args.process c.requires.process c.in-Some.turn c.in-Some.ensures
    _ c.act.new.node c.act.result c.from.result c.from-in-Some.result c.from.ensures c.from-in-Some.ensures c.index_mut-node.ensures.value c.act.ensures.node c.act.ensures.state c.act.ensures.local
