use Rattle.std.proofs.Common.{refl, subst}
use Rattle.cn_tree_plans.specs.Plan.{IsTreePlan, TreePlan, tree_of}
use Rattle.cn_tree_plans.proofs.PlanLemmas.{judges_right, of_type, uniform}
use Rattle.cn_tree_plans.proofs.laws.tree_plans_are_right.Goals as goal

pub returns : goal.returns
returns c =
    let is : IsTreePlan c.args.plan.now = subst (λ (p : TreePlan). IsTreePlan p) c.plan.view_is c.plan.invariant.0 in
    let right = judges_right c.args.plan.now is in
    record {
      plan = is;
      right = right;
      tree = λ allowed has. record {
        table = refl;
        processes = refl;
        witnesses = c.witnesses_make_plan_trees.ensures.witnesses (tree_of c.args.plan.now) right;
        of_type = of_type c.nodes_are_trees.ensures.processes c.args.plan.now is;
        uniform = uniform c.nodes_are_trees.ensures.processes c.args.plan.now is allowed has;
      };
    }
