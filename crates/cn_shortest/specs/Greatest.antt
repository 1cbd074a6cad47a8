-- The most processes for which there is a tree.
use Rattle.std.specs.Prelude.{ℕ, ◌≡◌, ◌<◌, ◌≤◌, Bool, Option, MatchOption}
use Rattle.cn_table.specs.TypeTable.{TypeTable}
use Rattle.cn_meetings.specs.Meeting.{Sight}
use Rattle.cn_trees.specs.Tree.{PlanTree}
use Rattle.cn_tree_costs.specs.Cost.{IsLeastPlan, IsTreeFor, cost}
use Rattle.cn_tree_plans.specs.Plan.{TreePlan, tree_of}
use Rattle.cn_tree_plans.specs.declared.plan.Cost.{Cost}
use Rattle.cn_shortest.specs.Costs.{cost_of}

-- there is a tree for n processes
abbrev pub HasTree : TypeTable → (Sight → Bool) → ℕ → Type 0
HasTree t allowed n = (T : PlanTree) × IsTreeFor t allowed n T

-- there is none for any number of processes up to the most
abbrev pub HasNoTree : TypeTable → (Sight → Bool) → ℕ → Type 0
HasNoTree t allowed most = (n : ℕ) → 2 ≤ n → n ≤ most → ¬ HasTree t allowed n

-- n processes, and there is no tree for more of them up to the most
pub record IsGreatest (t : TypeTable) (allowed : Sight → Bool) (most n : ℕ) : Type 0 where
  pub some : 2 ≤ n
  pub within : n ≤ most
  pub greatest : (m : ℕ) → n < m → m ≤ most → ¬ HasTree t allowed m

-- a least plan for the most processes for which there is a tree
pub record IsGreatestPlan (t : TypeTable) (allowed : Sight → Bool) (most : ℕ) (plan : TreePlan)
    : Type 0 where
  pub processes : ℕ
  pub count : IsGreatest t allowed most processes
  pub least : IsLeastPlan t allowed processes (tree_of plan)

-- there is one, unless there is no tree
abbrev pub IsGreatestPlanFound : TypeTable → (Sight → Bool) → ℕ → Option TreePlan → Type 0
IsGreatestPlanFound t allowed most found =
    MatchOption found (HasNoTree t allowed most) (IsGreatestPlan t allowed most)

-- the most processes for which there is a tree, and the cost of a least plan for them
pub record IsGreatestCost (t : TypeTable) (allowed : Sight → Bool) (most : ℕ) (found : ℕ × Cost)
    : Type 0 where
  pub count : IsGreatest t allowed most found.0
  pub tree : PlanTree
  pub least : IsLeastPlan t allowed found.0 tree
  pub cost_is : cost tree ≡ cost_of found.1

abbrev pub IsGreatestCostFound : TypeTable → (Sight → Bool) → ℕ → Option (ℕ × Cost) → Type 0
IsGreatestCostFound t allowed most found =
    MatchOption found (HasNoTree t allowed most) (IsGreatestCost t allowed most)
