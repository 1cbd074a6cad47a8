-- Consensus along a plan tree: agreement, validity, and wait-freedom with the exact number of
-- steps.
-- Source: Herlihy, Wait-free synchronization, 1991.
use Rattle.std.specs.Prelude.{ℕ, zero, suc, ◌≡◌, ◌+◌, ◌<◌, ◌≤◌, ◌↔◌, List, length, Option, Some}
use Rattle.std.specs.Prelude.{None, IsSome, Contains, if◌then◌else◌}
use Rattle.cn_agree.specs.Consensus.{occurrences}
use Rattle.cn_trees.specs.Steps.{Local, World, looks_at, world_after}
use Rattle.cn_trees.specs.Steps.Local.{Active, Decided}
use Rattle.cn_trees.specs.Tree.{Place, PlanTree, path_of, place_of}

abbrev pub decision_of : {V : Type 0} → Local V → Option V
decision_of (Active i x stage) = None
decision_of (Decided y) = Some y

-- the decision of process p, if it has one
abbrev pub decision : {V : Type 0} → World V → ℕ → Option V
decision w p = decision_of (w.locals p)

-- the steps of a process at a place: three, or four where it looks at the object
abbrev pub steps_at : PlanTree → ℕ → Place → ℕ
steps_at T p here = if looks_at T here.node p then 4 else 3

-- its steps before place i of its path
abbrev pub steps_before : PlanTree → ℕ → ℕ → ℕ
steps_before T p zero = 0
steps_before T p (suc i) = steps_before T p i + steps_at T p (place_of T p i)

-- all its steps
abbrev pub steps_of : PlanTree → ℕ → ℕ
steps_of T p = steps_before T p (length (path_of T p))

-- after this schedule of n processes: agreement; validity, for participants; and a process has
-- decided exactly if it has taken the steps of its path
pub record IsConsensus {V : Type 0} (T : PlanTree) (n : ℕ) (inputs : ℕ → V) (schedule : List ℕ)
    : Type 0 where
  pub agreement : (p q : ℕ) (x y : V) → p < n → q < n
      → decision (world_after T inputs schedule) p ≡ Some x
      → decision (world_after T inputs schedule) q ≡ Some y → x ≡ y
  pub validity : (p : ℕ) (x : V) → p < n → decision (world_after T inputs schedule) p ≡ Some x
      → (q : ℕ) × Contains schedule q × (inputs q ≡ x)
  pub in_time : (p : ℕ) → p < n
      → IsSome (decision (world_after T inputs schedule) p) ↔ (steps_of T p ≤ occurrences schedule p)
