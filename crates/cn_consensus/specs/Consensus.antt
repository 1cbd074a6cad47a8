-- Protocols for wait-free binary consensus.
-- Source: Herlihy, Wait-free synchronization, 1991.
use Rattle.std.specs.Prelude.{◌≡◌, ℕ, ◌<◌, ◌≤◌, List, Bool, nat_eq, Some, count_by}
use Rattle.std.specs.List.{AllByRecursion}
use Rattle.cn_table.specs.TypeTable.{TypeTable}
use Rattle.cn_consensus.specs.Protocol.{Protocol}
use Rattle.cn_consensus.specs.Configuration.{after, decision, initial}

-- a schedule of n processes: any list of them. A process that stops is not in the rest of it.
abbrev pub IsSchedule : ℕ → List ℕ → Type 0
IsSchedule n schedule = AllByRecursion (λ p. p < n) schedule

-- how often a process occurs in a schedule
abbrev pub occurrences : List ℕ → ℕ → ℕ
occurrences schedule p = count_by (λ q. nat_eq q p) schedule

-- with these inputs, process p has decided x after the schedule
abbrev pub HasDecided : {L V : Type 0} → (ℕ → TypeTable) → Protocol L V
    → (ℕ → Bool) → List ℕ → ℕ → Bool → Type 0
HasDecided t P inputs schedule p x =
    decision P (after t P (initial P inputs) schedule) p ≡ Some x

-- agreement: no two processes decide differently
abbrev pub HasAgreement : {L V : Type 0} → (ℕ → TypeTable) → ℕ → Protocol L V → Type 0
HasAgreement t n P = (inputs : ℕ → Bool) (schedule : List ℕ) → IsSchedule n schedule
    → (p q : ℕ) (x y : Bool) → p < n → q < n
    → HasDecided t P inputs schedule p x → HasDecided t P inputs schedule q y → x ≡ y

-- validity: each decision is the input of some process, which need not have taken a step
abbrev pub HasValidity : {L V : Type 0} → (ℕ → TypeTable) → ℕ → Protocol L V → Type 0
HasValidity t n P = (inputs : ℕ → Bool) (schedule : List ℕ) → IsSchedule n schedule
    → (p : ℕ) (x : Bool) → p < n → HasDecided t P inputs schedule p x
    → (q : ℕ) × (q < n) × (inputs q ≡ x)

-- bounded wait-freedom: for all inputs there is a bound, and a process has decided after so many
-- steps of its own, whatever the others do
abbrev pub IsBoundedWaitFree : {L V : Type 0} → (ℕ → TypeTable) → ℕ → Protocol L V → Type 0
IsBoundedWaitFree t n P = (inputs : ℕ → Bool) → (bound : ℕ) × ((schedule : List ℕ)
    → IsSchedule n schedule → (p : ℕ) → p < n → bound ≤ occurrences schedule p
    → (x : Bool) × HasDecided t P inputs schedule p x)

-- a protocol for wait-free binary consensus of n processes
pub record IsConsensusProtocol {L V : Type 0} (t : ℕ → TypeTable) (n : ℕ) (P : Protocol L V)
    : Type 0 where
  pub agreement : HasAgreement t n P
  pub validity : HasValidity t n P
  pub wait_freedom : IsBoundedWaitFree t n P
