use Rattle.cn_tree_rounds.proofs.Keeping.{first_of_plan}
use Rattle.cn_tree_rounds.proofs.Storing.{first_is}
use Rattle.cn_tree_rounds.proofs.world.World.new.Goals as goal

pub returns-clause-world : goal.returns-clause-world
returns-clause-world c = first_is c.args.plan.now c.in_ok-first_nodes.field-0.items c.in_ok-first_locals.field-0.items c.args.inputs.now c.in_ok-first_nodes.ensures c.in_ok-first_locals.ensures

pub returns-clause-of_plan : goal.returns-clause-of_plan
returns-clause-of_plan c =
    first_of_plan c.args.plan.now c.tree_plans_are_right.ensures.plan c.in_ok-first_nodes.field-0.items c.in_ok-first_locals.field-0.items c.args.inputs.now c.requires
    c.in_ok-first_nodes.ensures c.in_ok-first_locals.ensures
