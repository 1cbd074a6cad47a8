use Rattle.std.proofs.Common.{arith}
use Rattle.cn_tree_plans.specs.Teams.{teams_of}
use Rattle.cn_tree_plans.proofs.TeamLemmas.{several_bound}
use Rattle.cn_tree_plans.proofs.plan.TreePlan.processes.Goals as goal

pub returns-clause-range : goal.returns-clause-range
returns-clause-range c =
    let most = c.self.invariant.0.few in
    let several = c.self.invariant.0.proper.several in
    let count = c.self.invariant.1.count in
    let bound = several_bound (teams_of c.self.inside.teams) c.self.invariant.0.proper.below in
    (omega arith, omega arith)
