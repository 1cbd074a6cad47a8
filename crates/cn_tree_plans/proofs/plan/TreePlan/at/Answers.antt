use Rattle.std.proofs.Common.{◌≡◌, ap, arith, subst, ◌∙◌}
use Rattle.cn_trees.specs.Tree.{Teams}
use Rattle.cn_tree_costs.specs.Nodes.{node_at}
use Rattle.cn_tree_plans.specs.Plan.{IsTreePlan, TreePlan}
use Rattle.cn_tree_plans.specs.Teams.{teams_of}
use Rattle.cn_tree_plans.proofs.TeamLemmas.{proper_at, several_bound, within}
use Rattle.cn_tree_plans.proofs.plan.TreePlan.at.Goals as goal

pub at-requires-clause-nodes : goal.at-requires-clause-nodes
at-requires-clause-nodes c =
    omega (arith, several_bound (teams_of c.self.inside.teams) c.self.invariant.0.proper.below, c.self.invariant.0.few)

pub returns : goal.returns
returns c =
    let is = subst (λ (p : TreePlan). IsTreePlan p) c.self.view_is c.self.invariant.0 in
    let whole = proper_at c.args.self.now.teams c.args.node is.proper c.requires in
    let s : Teams = (node_at c.args.self.now.teams c.args.node).teams in
    let ts : teams_of c.at.result.now ≡ s = c.at.ensures ∙ ap (λ (p : TreePlan). (node_at p.teams c.args.node).teams) c.self.view_is in
    record {
      teams = ts;
      several = rw ts whole.several;
      count = rw ts (omega (arith, several_bound s whole.below));
      few = rw ts (within c.args.self.now.teams c.args.node, is.few);
    }
