-- The cost of a plan tree, and plans of least cost. New here.
use Rattle.std.specs.Prelude.{ℕ, zero, suc, ◌≡◌, ◌+◌, ◌<◌, ◌⊎◌, max, Bool, true}
use Rattle.cn_table.specs.TypeTable.{TypeTable}
use Rattle.cn_meetings.specs.Meeting.{Sight}
use Rattle.cn_meetings.specs.Witness.{Has}
use Rattle.cn_trees.specs.Consensus.{steps_of}
use Rattle.cn_trees.specs.Tree.{AreWitnesses, IsOfType, PlanTree, comes_to, nodes_of, processes_of}

-- the greatest of the first n values, or 0
abbrev pub greatest : (ℕ → ℕ) → ℕ → ℕ
greatest f zero = 0
greatest f (suc n) = max (greatest f n) (f n)

-- the sum of the first n values
abbrev pub total : (ℕ → ℕ) → ℕ → ℕ
total f zero = 0
total f (suc n) = total f n + f n

-- the greatest number of own steps; the number of objects; the own steps of all processes together
pub record Cost : Type 0 where
  pub steps : ℕ
  pub nodes : ℕ
  pub sum : ℕ

abbrev pub cost : PlanTree → Cost
cost T = record {
  steps = greatest (steps_of T) (processes_of T);
  nodes = nodes_of T;
  sum = total (steps_of T) (processes_of T);
}

-- the first cost is less: the steps decide, then the objects, then the sum
abbrev pub IsLess : Cost → Cost → Type 0
IsLess a b = (a.steps < b.steps) ⊎ ((a.steps ≡ b.steps)
    × ((a.nodes < b.nodes) ⊎ ((a.nodes ≡ b.nodes) × (a.sum < b.sum))))

-- at each node all processes look in one way, and this is one of the ways that are allowed
abbrev pub IsUniform : (Sight → Bool) → PlanTree → Type 0
IsUniform allowed T = (node : ℕ) → (sight : Sight) × (allowed sight ≡ true)
    × ((p : ℕ) → Has (comes_to T.teams node) p → (T.meeting node).sight p ≡ sight)

-- a uniform tree of witnesses of the type, for n processes
pub record IsTreeFor (t : TypeTable) (allowed : Sight → Bool) (n : ℕ) (T : PlanTree)
    : Type 0 where
  pub table : T.table ≡ t
  pub processes : processes_of T ≡ n
  pub witnesses : AreWitnesses T
  pub of_type : IsOfType T
  pub uniform : IsUniform allowed T

-- and no such tree costs less
pub record IsLeastPlan (t : TypeTable) (allowed : Sight → Bool) (n : ℕ) (T : PlanTree)
    : Type 0 where
  pub tree : IsTreeFor t allowed n T
  pub least : (U : PlanTree) → IsTreeFor t allowed n U → ¬ IsLess (cost U) (cost T)
