use Rattle.std.proofs.Common.{arith}
use Rattle.cn_tree_plans.specs.Teams.{teams_of}
use Rattle.cn_tree_plans.proofs.TeamLemmas.{several_bound}
use Rattle.cn_tree_plans.proofs.plan.TreePlan.first_there.Goals as goal

pub first_at-requires-clause-few : goal.first_at-requires-clause-few
first_at-requires-clause-few c = omega (arith, c.self.invariant.0.few)

pub first_at-requires-clause-nodes : goal.first_at-requires-clause-nodes
first_at-requires-clause-nodes c =
    omega (arith, several_bound (teams_of c.self.inside.teams) c.self.invariant.0.proper.below, c.self.invariant.0.few)
