-- Protocols for recoverable wait-free binary consensus.
-- Source: Golab, The recoverable consensus hierarchy, 2020; Delporte-Gallet, Fatourou, Fauconnier
-- and Ruppert, When is recoverable consensus harder than consensus?, 2022; Ovens, Determining
-- recoverable consensus numbers, 2024.
use Rattle.std.specs.Prelude.{◌≡◌, ℕ, ◌<◌, ◌≤◌, ◌⊎◌, List, ◌++◌, Bool}
use Rattle.cn_table.specs.TypeTable.{TypeTable}
use Rattle.cn_consensus.specs.Protocol.{Protocol}
use Rattle.cn_crashes.specs.Execution.{Event, HasDecidedIn, IsExecution, steps_of}
use Rattle.cn_crashes.specs.RecoverableWaitFreedom.{IsRecoverablyWaitFree}

-- agreement: no two decisions that are ever made differ, also not those of one process before and
-- after a crash. A definition of the literature may differ here: a process may crash after its
-- decision too, and must then decide the same value again. Where a process that has decided does
-- not crash any more, a definition asks for less.
abbrev pub HasRecoverableAgreement : {L V : Type 0} → (ℕ → TypeTable) → ℕ → Protocol L V → Type 0
HasRecoverableAgreement t n P = (inputs : ℕ → Bool) (es us : List Event)
    → IsExecution n es → IsExecution n us → (p q : ℕ) (x y : Bool) → p < n → q < n
    → HasDecidedIn t P inputs es p x → HasDecidedIn t P inputs (es ++ us) q y → x ≡ y

-- validity: each decision is the input of some process
abbrev pub HasRecoverableValidity : {L V : Type 0} → (ℕ → TypeTable) → ℕ → Protocol L V → Type 0
HasRecoverableValidity t n P = (inputs : ℕ → Bool) (es : List Event) → IsExecution n es
    → (p : ℕ) (x : Bool) → p < n → HasDecidedIn t P inputs es p x
    → (q : ℕ) × (q < n) × (inputs q ≡ x)

-- strong validity: each decision is the input of a process that has taken a step, or of the process
-- that has decided
abbrev pub HasStrongRecoverableValidity : {L V : Type 0} → (ℕ → TypeTable) → ℕ → Protocol L V
    → Type 0
HasStrongRecoverableValidity t n P = (inputs : ℕ → Bool) (es : List Event) → IsExecution n es
    → (p : ℕ) (x : Bool) → p < n → HasDecidedIn t P inputs es p x
    → (q : ℕ) × (q < n) × (inputs q ≡ x) × ((q ≡ p) ⊎ (1 ≤ steps_of q es))

-- a protocol for recoverable wait-free binary consensus of n processes
pub record IsRecoverableConsensusProtocol {L V : Type 0} (t : ℕ → TypeTable) (n : ℕ)
    (P : Protocol L V) : Type 0 where
  pub agreement : HasRecoverableAgreement t n P
  pub validity : HasRecoverableValidity t n P
  pub wait_freedom : IsRecoverablyWaitFree t n P
