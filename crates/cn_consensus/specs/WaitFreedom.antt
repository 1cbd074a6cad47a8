-- Wait-freedom with no bound: by runs that end, and by infinite schedules.
-- Source: Herlihy, Wait-free synchronization, 1991: the form with infinite schedules.
use Rattle.std.specs.Prelude.{◌≡◌, ◌≢◌, ℕ, zero, suc, ◌<◌, ◌≤◌, ◌⊎◌, List, [], ◌∷◌, ◌++◌, Bool}
use Rattle.std.specs.Prelude.{None}
use Rattle.cn_table.specs.TypeTable.{TypeTable}
use Rattle.cn_consensus.specs.Protocol.{Protocol}
use Rattle.cn_consensus.specs.Configuration.{Configuration, decision, initial, step}
use Rattle.cn_consensus.specs.Consensus.{HasDecided}

-- no run from this configuration goes on for ever with steps of processes that have not decided:
-- each such step leads to a configuration of this kind
pub data Ends {L V : Type 0} (t : ℕ → TypeTable) (n : ℕ) (P : Protocol L V)
    : Configuration L V → Type 0 where
  Ending : {c : Configuration L V}
      → ((p : ℕ) → p < n → decision P c p ≡ None → Ends t n P (step t P c p)) → Ends t n P c

-- every run ends, with all inputs
abbrev pub EveryRunEnds : {L V : Type 0} → (ℕ → TypeTable) → ℕ → Protocol L V → Type 0
EveryRunEnds t n P = (inputs : ℕ → Bool) → Ends t n P (initial P inputs)

-- the first k steps of an infinite schedule
abbrev pub first_steps : (ℕ → ℕ) → ℕ → List ℕ
first_steps f zero = []
first_steps f (suc k) = first_steps f k ++ f k ∷ []

-- the infinite schedule has the process infinitely often
abbrev pub IsInfinitelyOften : (ℕ → ℕ) → ℕ → Type 0
IsInfinitelyOften f p = (k : ℕ) → (m : ℕ) × (k ≤ m) × (f m ≡ p)

-- from some step on the infinite schedule has the process no more
abbrev pub IsFinitelyOften : (ℕ → ℕ) → ℕ → Type 0
IsFinitelyOften f p = (k : ℕ) × ((m : ℕ) → k ≤ m → f m ≢ p)

-- wait-freedom: in each infinite schedule each process that it has infinitely often decides
abbrev pub IsWaitFree : {L V : Type 0} → (ℕ → TypeTable) → ℕ → Protocol L V → Type 0
IsWaitFree t n P = (inputs : ℕ → Bool) (f : ℕ → ℕ) → ((k : ℕ) → f k < n)
    → (p : ℕ) → IsInfinitelyOften f p
    → (k : ℕ) × (x : Bool) × HasDecided t P inputs (first_steps f k) p x

-- excluded middle for two statements: every run from a configuration ends; an infinite schedule has
-- a process infinitely often
pub record ExcludedMiddle {L V : Type 0} (t : ℕ → TypeTable) (n : ℕ) (P : Protocol L V)
    : Type 0 where
  pub run : (c : Configuration L V) → Ends t n P c ⊎ ¬ Ends t n P c
  pub often : (f : ℕ → ℕ) (p : ℕ) → IsInfinitelyOften f p ⊎ IsFinitelyOften f p
