-- The cost of a least plan tree.
use Rattle.std.specs.Prelude.{ℕ, ◌≡◌, ◌<◌, ◌≤◌, ◌↔◌, Bool, true, false, IfSome, List, Option, None, Some, slice_get}
use Rattle.std.specs.Option.{IsSome}
use Rattle.cn_table.specs.TypeTable.{TypeTable}
use Rattle.cn_meetings.specs.Meeting.{Sight}
use Rattle.cn_trees.specs.Tree.{PlanTree}
use Rattle.cn_tree_costs.specs.Cost as plans
use Rattle.cn_tree_costs.specs.Cost.{IsLeastPlan, IsTreeFor, cost}
use Rattle.cn_tree_plans.specs.Plan.{TreePlan, tree_of}
use Rattle.cn_meetings.specs.Meeting.Sight.{Nothing, Response, State}
use Rattle.cn_shortest.specs.Loads.{load_in}
use Rattle.cn_tree_plans.specs.declared.plan.Cost.{Cost}
use Rattle.cn_shortest.specs.declared.loads.Load.{Load}

abbrev pub cost_of : Cost → plans.Cost
cost_of c = record { steps = c.steps; nodes = c.nodes; sum = c.sum }

-- the first bounds have no load
abbrev pub HaveNoLoad : List (Option Load) → ℕ → Type 0
HaveNoLoad loads count = (b : ℕ) → b < count → load_in (slice_get loads b) ≡ None

-- the load by the least bound that has one
pub record IsFirstCost (loads : List (Option Load)) (c : Cost) : Type 0 where
  pub within : c.steps ≤ 28
  pub load_is : load_in (slice_get loads c.steps) ≡ Some (record { nodes = c.nodes; sum = c.sum })
  pub first : HaveNoLoad loads c.steps

-- the cost of a least plan for n processes, which there is exactly if there is a tree for them
pub record IsLeastCost (t : TypeTable) (allowed : Sight → Bool) (n : ℕ) (found : Option Cost)
    : Type 0 where
  pub plan : IfSome found (λ c. (T : PlanTree) × IsLeastPlan t allowed n T
      × (cost T ≡ cost_of c))
  pub some : IsSome found ↔ ((T : PlanTree) × IsTreeFor t allowed n T)

-- a least plan for n processes, which there is exactly if there is a tree for them
pub record IsLeastPlanFound (t : TypeTable) (allowed : Sight → Bool) (n : ℕ)
    (found : Option TreePlan) : Type 0 where
  pub plan : IfSome found (λ plan. IsLeastPlan t allowed n (tree_of plan))
  pub some : IsSome found ↔ ((T : PlanTree) × IsTreeFor t allowed n T)

-- the processes read the state, or do not look at it
abbrev pub two_sights : Sight → Bool
two_sights State = true
two_sights Nothing = true
two_sights (Response o) = false
