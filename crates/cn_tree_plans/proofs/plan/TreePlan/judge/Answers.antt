use Rattle.cn_tree_plans.proofs.PlanLemmas.{judged_inside}
use Rattle.cn_tree_plans.proofs.plan.TreePlan.judge.Goals as goal

pub returns-clause-range : goal.returns-clause-range
returns-clause-range c =
    rw (c.team.ensures, c.list.ensures) (judged_inside c.nodes_are_trees.ensures.processes c.nodes_are_trees.ensures.teams
    c.args.self.now c.is_plan.ensures c.args.node c.args.process c.args.response.0 c.args.saw c.requires)
