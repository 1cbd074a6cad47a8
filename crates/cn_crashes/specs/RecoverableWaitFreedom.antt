-- Recoverable wait-freedom: a process that starts decides or crashes after finitely many own steps.
-- Source: Golab, The recoverable consensus hierarchy, 2020.
use Rattle.std.specs.Prelude.{◌≡◌, ℕ, ◌<◌, ◌≤◌, List, ◌++◌, Bool, None}
use Rattle.cn_table.specs.TypeTable.{TypeTable}
use Rattle.cn_consensus.specs.Configuration.{Configuration, decision, initial, step}
use Rattle.cn_consensus.specs.Protocol.{Protocol}
use Rattle.cn_crashes.specs.Execution.{Event, HasDecidedIn, IsExecution, NeverCrashes}
use Rattle.cn_crashes.specs.Execution.{after_execution, steps_of}

-- process p does not take steps for ever from this configuration. As long as it neither crashes nor
-- decides, whatever the others do, each step of it leads to a configuration of this kind.
pub data EndsFor {L V : Type 0} (t : ℕ → TypeTable) (n : ℕ) (P : Protocol L V)
    (inputs : ℕ → Bool) (p : ℕ) : Configuration L V → Type 0 where
  Ending : {c : Configuration L V}
      → ((es : List Event) → IsExecution n es → NeverCrashes p es
      → decision P (after_execution t P inputs c es) p ≡ None
      → EndsFor t n P inputs p (step t P (after_execution t P inputs c es) p))
      → EndsFor t n P inputs p c

-- recoverable wait-freedom: after any execution, no process takes steps for ever without a crash of
-- its own and without a decision. A definition of the literature may differ here: it is the crashes
-- of the process itself that are finitely many, and the others may crash for ever. Where all
-- crashes together are finitely many, a definition asks for less.
abbrev pub IsRecoverablyWaitFree : {L V : Type 0} → (ℕ → TypeTable) → ℕ → Protocol L V → Type 0
IsRecoverablyWaitFree t n P = (inputs : ℕ → Bool) (es : List Event) → IsExecution n es
    → (p : ℕ) → p < n
    → EndsFor t n P inputs p (after_execution t P inputs (initial P inputs) es)

-- each life ends within a bound: after any execution, a process that takes so many steps without a
-- crash of its own has decided
abbrev pub DecidesWithin : {L V : Type 0} → (ℕ → TypeTable) → ℕ → Protocol L V → (ℕ → Bool) → ℕ
    → Type 0
DecidesWithin t n P inputs bound = (es us : List Event) → IsExecution n es → IsExecution n us
    → (p : ℕ) → p < n → NeverCrashes p us → bound ≤ steps_of p us
    → (x : Bool) × HasDecidedIn t P inputs (es ++ us) p x

-- recoverable wait-freedom with a bound, for each inputs
abbrev pub IsBoundedRecoverablyWaitFree : {L V : Type 0} → (ℕ → TypeTable) → ℕ → Protocol L V
    → Type 0
IsBoundedRecoverablyWaitFree t n P = (inputs : ℕ → Bool)
    → (bound : ℕ) × DecidesWithin t n P inputs bound
