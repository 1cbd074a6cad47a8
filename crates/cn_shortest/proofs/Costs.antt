-- The cost of a least plan, from the rows of loads.
use Rattle.std.proofs.Common.{ℕ, ◌≡◌, ◌-◌, ◌*◌, ◌<◌, ◌≤◌, ◌↔◌, Bool, List, true, false, true≢false, refl, sym, ap, ◌∙◌, arith, Option, Some, None, IsSome, IfSome}
use Rattle.std.specs.Prelude.{slice_get}
use Rattle.cn_table.specs.TypeTable.{TypeTable}
use Rattle.cn_meetings.specs.Meeting.{Sight}
use Rattle.cn_trees.specs.Tree.{PlanTree}
use Rattle.cn_tree_costs.specs.Cost.{IsLeastPlan, IsTreeFor, cost}
use Rattle.cn_tree_costs.specs.Least as least
use Rattle.cn_shortest.specs.Costs.{HaveNoLoad, IsFirstCost, IsLeastCost, cost_of}
use Rattle.cn_shortest.specs.Loads.{load_at, load_in, table_of}
use Rattle.cn_tree_plans.specs.declared.plan.Cost.{Cost}
use Rattle.cn_shortest.specs.declared.loads.Row.{Row}

abbrev is_some_of : Option least.Load → Bool
is_some_of None = false
is_some_of (Some x) = true

some_of : (o : Option least.Load) → IsSome o → is_some_of o ≡ true
some_of None e = e
some_of (Some x) e = refl

module _ (rows : List Row) (row : Row) (n : ℕ) (t : TypeTable) (allowed : Sight → Bool)
    (few : n ≤ 8) (at : slice_get rows (n - 1) ≡ Some row)
    (law : (b : ℕ) (x : least.Load) → b ≤ 28 → table_of rows n b ≡ Some x → ((c : ℕ) → c < b → table_of rows n c ≡ None)
    → (T : PlanTree) × IsLeastPlan t allowed n T × (cost T ≡ record { steps = b; nodes = x.nodes; sum = x.sum }))
    (exact : IsSome (table_of rows n (4 * (n - 1))) ↔ ((T : PlanTree) × IsTreeFor t allowed n T)) where
  entry : (b : ℕ) → table_of rows n b ≡ load_in (slice_get row.loads b)
  entry b = ap (λ (o : Option Row). load_at o b) at

  plan_is : (c : Cost) → IsFirstCost row.loads c → (T : PlanTree) × IsLeastPlan t allowed n T × (cost T ≡ cost_of c)
  plan_is c first = law c.steps (record { nodes = c.nodes; sum = c.sum }) first.within (entry c.steps ∙ first.load_is) (λ b l. entry b ∙ first.first b l)

  pub least_cost_is : (found : Option Cost) → IfSome found (IsFirstCost row.loads) → (found ≡ None → HaveNoLoad row.loads 29) → IsLeastCost t allowed n found
  least_cost_is (Some c) first none = let p = plan_is c first in record { plan = p; some = (λ e. (p.0, p.1.tree), λ h. refl) }
  least_cost_is None first none = record {
    plan = tt;
    some = (
      λ e. absurd (true≢false (sym e)),
      λ h. absurd (true≢false (sym (some_of (table_of rows n (4 * (n - 1))) (exact.1 h)) ∙ ap is_some_of (entry (4 * (n - 1)) ∙ none refl (4 * (n - 1)) (omega (arith, few))))),
    );
  }

-- the load that the cost has
pub first_load : (rows : List Row) (row : Row) (n : ℕ) (found : Option Cost) → slice_get rows (n - 1) ≡ Some row → IfSome found (IsFirstCost row.loads)
    → IfSome found (λ c. (c.steps ≤ 28) × (table_of rows n c.steps ≡ Some (record { nodes = c.nodes; sum = c.sum })))
first_load rows row n None at first = tt
first_load rows row n (Some c) at first = (first.within, ap (λ (o : Option Row). load_at o c.steps) at ∙ first.load_is)
