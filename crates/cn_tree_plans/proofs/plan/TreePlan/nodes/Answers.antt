use Rattle.std.proofs.Common.{ap, arith}
use Rattle.cn_trees.specs.Tree.{members}
use Rattle.cn_tree_plans.specs.Plan.{TreePlan}
use Rattle.cn_tree_plans.specs.Teams.{teams_of}
use Rattle.cn_tree_plans.proofs.TeamLemmas.{several_bound}
use Rattle.cn_tree_plans.proofs.plan.TreePlan.nodes.Goals as goal

pub overflow_cast-result : goal.overflow_cast-result
overflow_cast-result c =
    let most = c.self.invariant.0.few in
    let count = c.self.invariant.0.fits.count in
    let several = c.self.invariant.0.proper.several in
    let bound = several_bound (teams_of c.self.inside.teams) c.self.invariant.0.proper.below in
    omega arith

pub returns-clause-range : goal.returns-clause-range
returns-clause-range c =
    let count = c.self.invariant.0.fits.count in
    let several = c.self.invariant.0.proper.several in
    let bound = several_bound (teams_of c.self.inside.teams) c.self.invariant.0.proper.below in
    let whole = ap (λ (p : TreePlan). members p.teams) c.self.view_is in
    (omega arith, omega arith)
