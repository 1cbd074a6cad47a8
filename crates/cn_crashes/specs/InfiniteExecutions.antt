-- Recoverable wait-freedom by infinite executions.
-- Source: the form of Herlihy, Wait-free synchronization, 1991, for what follows the last crash of
-- a process.
use Rattle.std.specs.Prelude.{◌≡◌, ◌≢◌, ℕ, zero, suc, ◌<◌, ◌≤◌, ◌⊎◌, List, [], ◌∷◌, ◌++◌, Bool}
use Rattle.std.specs.Prelude.{None}
use Rattle.cn_table.specs.TypeTable.{TypeTable}
use Rattle.cn_consensus.specs.Configuration.{Configuration, decision, step}
use Rattle.cn_consensus.specs.Protocol.{Protocol}
use Rattle.cn_crashes.specs.Execution.{Event, HasDecidedIn, IsExecution, NeverCrashes}
use Rattle.cn_crashes.specs.Execution.{after_execution, process_of}
use Rattle.cn_crashes.specs.Execution.Event.{Step, Crash}
use Rattle.cn_crashes.specs.RecoverableWaitFreedom.{EndsFor}

-- the first k events of an infinite list of events
abbrev pub first_events : (ℕ → Event) → ℕ → List Event
first_events f zero = []
first_events f (suc k) = first_events f k ++ f k ∷ []

-- the process takes infinitely many steps
abbrev pub StepsInfinitelyOften : (ℕ → Event) → ℕ → Type 0
StepsInfinitelyOften f p = (k : ℕ) → (m : ℕ) × (k ≤ m) × (f m ≡ Step p)

-- a process that takes infinitely many steps and crashes only finitely often decides after its last
-- crash: es are the events up to that crash, and f are those behind it
abbrev pub DecidesInInfiniteExecutions : {L V : Type 0} → (ℕ → TypeTable) → ℕ → Protocol L V
    → Type 0
DecidesInInfiniteExecutions t n P = (inputs : ℕ → Bool) (es : List Event) → IsExecution n es
    → (f : ℕ → Event) → ((k : ℕ) → process_of (f k) < n)
    → (p : ℕ) → p < n → StepsInfinitelyOften f p → ((k : ℕ) → f k ≢ Crash p)
    → (k : ℕ) × (x : Bool) × HasDecidedIn t P inputs (es ++ first_events f k) p x

-- some events and a step of p that has not decided lead to a configuration from which p may take
-- steps for ever
abbrev pub GoesOn : {L V : Type 0} → (ℕ → TypeTable) → ℕ → Protocol L V → (ℕ → Bool)
    → ℕ → Configuration L V → Type 0
GoesOn t n P inputs p c = (es : List Event) × IsExecution n es × NeverCrashes p es
    × (decision P (after_execution t P inputs c es) p ≡ None)
    × ¬ EndsFor t n P inputs p (step t P (after_execution t P inputs c es) p)

-- the law of excluded middle, for processes that do not take steps for ever, and for those that go
-- on
pub record ExcludedMiddle {L V : Type 0} (t : ℕ → TypeTable) (n : ℕ) (P : Protocol L V)
    : Type 0 where
  pub ends : (inputs : ℕ → Bool) (p : ℕ) (c : Configuration L V)
      → EndsFor t n P inputs p c ⊎ ¬ EndsFor t n P inputs p c
  pub goes_on : (inputs : ℕ → Bool) (p : ℕ) (c : Configuration L V)
      → GoesOn t n P inputs p c ⊎ ¬ GoesOn t n P inputs p c
