use Rattle.cn_tree_plans.proofs.PlanLemmas.{few_places, known_place, some_place}
use Rattle.cn_tree_plans.proofs.plan.TreePlan.path.Goals as goal

pub returns-clause-known : goal.returns-clause-known
returns-clause-known c =
    known_place c.nodes_are_trees.ensures.processes c.nodes_are_trees.ensures.teams
    c.args.self.now.teams c.args.process c.places.result.now c.requires c.places.ensures

pub returns-clause-range : goal.returns-clause-range
returns-clause-range c = (
  some_place c.nodes_are_trees.ensures.processes c.nodes_are_trees.ensures.teams
      c.args.self.now.teams c.args.process c.places.result.now c.requires c.places.ensures,
  few_places c.nodes_are_trees.ensures.processes c.nodes_are_trees.ensures.teams
      c.args.self.now.teams c.args.process c.places.result.now c.requires c.places.ensures,
)
