-- The most processes for which there is a tree, from the greatest number down.
use Rattle.std.proofs.Common.{ℕ, ◌≡◌, ◌+◌, ◌<◌, ◌≤◌, inl, inr, Bool, true≢false, sym, subst, arith, Option, Some, None}
use Rattle.std.proofs.lemmas.Bool.{cases_eq}
use Rattle.std.proofs.lemmas.Option.{none-some}
use Rattle.cn_table.specs.TypeTable.{TypeTable}
use Rattle.cn_meetings.specs.Meeting.{Sight}
use Rattle.cn_tree_costs.specs.Cost.{IsLeastPlan}
use Rattle.cn_tree_plans.specs.Plan.{TreePlan, tree_of}
use Rattle.cn_tree_plans.specs.declared.plan.Cost.{Cost}
use Rattle.cn_shortest.specs.Costs.{IsLeastCost}
use Rattle.cn_shortest.specs.Greatest.{HasNoTree, HasTree, IsGreatestCost, IsGreatestCostFound, IsGreatestPlan}

-- there is no tree for more processes
abbrev pub NoneAbove : TypeTable → (Sight → Bool) → ℕ → ℕ → Type 0
NoneAbove t allowed most n = (m : ℕ) → n < m → m ≤ most → ¬ HasTree t allowed m

module _ (t : TypeTable) (allowed : Sight → Bool) (most n : ℕ) where
  -- no cost was found, and there is no tree
  pub none_for : (found : Option Cost) → found ≡ None → IsLeastCost t allowed n found → ¬ HasTree t allowed n
  none_for None e least = λ tree. true≢false (sym (least.some.1 tree))
  none_for (Some c) e least = absurd (none-some c (sym e))

  -- so there is none for more processes than one less
  pub none_from : (next : ℕ) → n ≤ next + 1 → NoneAbove t allowed most n → ¬ HasTree t allowed n → NoneAbove t allowed most next
  none_from next l above here m more few = elim (cases_eq m n) [
    | inl same ↦ subst (λ k. ¬ HasTree t allowed k) (sym same) here
    | inr other ↦ above m (omega (arith, other, more, l)) few
  ]

  pub cost_for : (c : Cost) → 2 ≤ n → n ≤ most → NoneAbove t allowed most n → IsLeastCost t allowed n (Some c) → IsGreatestCost t allowed most (n, c)
  cost_for c two within above least = record {
    count = record { some = two; within = within; greatest = above };
    tree = least.plan.0;
    least = least.plan.1;
    cost_is = least.plan.2;
  }

-- no cost was found, and there is no tree for any number
pub none_at_all : (t : TypeTable) (allowed : Sight → Bool) (most : ℕ) (found : Option (ℕ × Cost)) → found ≡ None → IsGreatestCostFound t allowed most found → HasNoTree t allowed most
none_at_all t allowed most None e is = is
none_at_all t allowed most (Some g) e is = absurd (none-some g (sym e))

-- a least plan for so many processes
pub plan_for : (t : TypeTable) (allowed : Sight → Bool) (most : ℕ) (found : ℕ × Cost) (plan : TreePlan) → IsGreatestCost t allowed most found → IsLeastPlan t allowed found.0 (tree_of plan) → IsGreatestPlan t allowed most plan
plan_for t allowed most found plan is least = record { processes = found.0; count = is.count; least = least }
