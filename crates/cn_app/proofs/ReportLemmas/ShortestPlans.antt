-- The shortest plans for the most processes, and what they cost.
use Rattle.std.proofs.Common.{arith, ◌≡◌, ℕ, Ok, Option, Some, None, ap, inl, inr, subst}
use Rattle.cn_table.specs.TypeTable.{TypeTable}
use Rattle.cn_finding.specs.declared.limits.TheConstants.{GREATEST_LIMIT}
use Rattle.cn_shortest.specs.Greatest.{IsGreatestCostFound, IsGreatestPlanFound}
use Rattle.cn_shortest.specs.Looks.{allowed}
use Rattle.cn_shortest.specs.declared.looks.Looks.{Looks}
use Rattle.cn_shortest.specs.declared.looks.Looks.TheVariants.{AtStates}
use Rattle.cn_tree_costs.specs.Cost as plans
use Rattle.cn_tree_costs.specs.Cost.{IsLeastPlan}
use Rattle.cn_tree_plans.specs.Plan.{TreePlan, tree_of}
use Rattle.cn_tree_plans.specs.declared.plan.Cost.{Cost}
use Rattle.cn_app.specs.Commands.Shortest.{GivesShortestPlan, HasNoPlan, IsShortestPlan}
use Rattle.cn_app.specs.Commands.ShortestCost.{IsShortestCost}
use Rattle.cn_app.specs.declared.reports.shortest.AskedPlan.{AskedPlan}

-- the plan that was found is the shortest one
pub most_found : (t : TypeTable) (looks : Looks) (found : Option TreePlan) (plan : TreePlan) → found ≡ Some plan
    → IsGreatestPlanFound t (allowed looks) GREATEST_LIMIT found → IsShortestPlan t looks None plan
most_found t looks None plan is h = cc
most_found t looks (Some p) plan is h =
    let same : p ≡ plan = cc in
    record {
      processes = h.processes;
      possible = (h.count.some, omega (arith, h.count.within));
      count = λ m more few. h.count.greatest m more (omega (arith, few));
      least = subst (λ (q : TreePlan). IsLeastPlan t (allowed looks) h.processes (tree_of q)) same h.least;
    }

-- none was found, and there is none
pub none_found : (t : TypeTable) (looks : Looks) (found : Option TreePlan) → found ≡ None → IsGreatestPlanFound t (allowed looks) GREATEST_LIMIT found → HasNoPlan t looks None
none_found t looks None is h = λ n possible. h n possible.0 (omega (arith, possible.1))
none_found t looks (Some p) is h = cc

-- the cost that was found is that of the shortest plan
pub cost_found : (t : TypeTable) (found : Option (ℕ × Cost)) (most : ℕ × Cost) → found ≡ Some most → IsGreatestCostFound t (allowed AtStates) GREATEST_LIMIT found
    → IsShortestCost t (record { processes = most.0; steps = most.1.steps; objects = most.1.nodes })
cost_found t None most is h = cc
cost_found t (Some c) most is h =
    let same : c ≡ most = cc in
    subst (λ (d : ℕ × Cost). IsShortestCost t (record { processes = d.0; steps = d.1.steps; objects = d.1.nodes })) same (record {
      possible = (h.count.some, omega (arith, h.count.within));
      count = λ m more few. h.count.greatest m more (omega (arith, few));
      tree = h.tree;
      least = h.least;
      steps = ap (λ (x : plans.Cost). x.steps) h.cost_is;
      objects = ap (λ (x : plans.Cost). x.nodes) h.cost_is;
    })

-- none was found, and there is no plan tree
pub no_cost_found : (t : TypeTable) (found : Option (ℕ × Cost)) → found ≡ None → IsGreatestCostFound t (allowed AtStates) GREATEST_LIMIT found → HasNoPlan t AtStates None
no_cost_found t None is h = λ n possible. h n possible.0 (omega (arith, possible.1))
no_cost_found t (Some c) is h = cc

-- the plan that is given is of the table
pub plan_is_of : (t : TypeTable) (asked : AskedPlan) (plan : TreePlan) → GivesShortestPlan t asked (Ok plan) → plan.table ≡ t
plan_is_of t asked plan (inl (e, gives, is)) = cc
plan_is_of t asked plan (inr (possible, gives, found)) = found.least.tree.table
