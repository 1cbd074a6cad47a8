-- Consensus of the decisions after a schedule: agreement, validity and wait-freedom.
use Rattle.std.specs.Prelude.{ℕ, ◌≡◌, ◌-◌, ◌*◌, ◌<◌, ◌≤◌, ◌==◌, ◌↔◌, List, length, Option, Some}
use Rattle.std.specs.Prelude.{count_by, Contains, slice_get}
use Rattle.std.specs.List.{AllByRecursion}
use Rattle.cn_proto.specs.Protocol.{ProtocolOfRounds}

-- process p has decided this
abbrev pub Decides : {V : Type 0} → List (Option V) → ℕ → V → Type 0
Decides decisions p x = slice_get decisions p ≡ Some (Some x)

-- process p has decided
abbrev pub HasDecided : {V : Type 0} → List (Option V) → ℕ → Type 0
HasDecided {V = V} decisions p = (x : V) × Decides decisions p x

-- a schedule of n processes: any list of them, in the order in which they take their steps
abbrev pub IsSchedule : ℕ → List ℕ → Type 0
IsSchedule n schedule = AllByRecursion (λ p. p < n) schedule

-- a participant of a schedule is a process that occurs in it
abbrev pub IsParticipant : List ℕ → ℕ → Type 0
IsParticipant schedule p = Contains schedule p

-- the number of times that a process occurs in a schedule
abbrev pub occurrences : List ℕ → ℕ → ℕ
occurrences schedule p = count_by (λ q. q == p) schedule

-- agreement: all decisions are equal
abbrev pub Agrees : {V : Type 0} → List (Option V) → Type 0
Agrees {V = V} decisions = (p q : ℕ) (x y : V) → Decides decisions p x
    → Decides decisions q y → x ≡ y

-- validity: each decision is the input of a participant
abbrev pub IsValid : {V : Type 0} → List V → List ℕ → List (Option V) → Type 0
IsValid {V = V} inputs schedule decisions = (p : ℕ) (x : V) → Decides decisions p x
    → (q : ℕ) × IsParticipant schedule q × (slice_get inputs q ≡ Some x)

-- wait-freedom, with a bound: a process has decided exactly when it occurs at least four times for
-- each place of its path, which is at most 4 (n - 1) times
pub record IsWaitFree {V : Type 0} (P : ProtocolOfRounds) (n : ℕ) (schedule : List ℕ)
    (decisions : List (Option V)) : Type 0 where
  pub in_time : (p : ℕ) → p < n
      → HasDecided decisions p ↔ (4 * length (P.path p) ≤ occurrences schedule p)
  pub bound : (p : ℕ) → p < n → 4 * length (P.path p) ≤ 4 * (n - 1)

-- all three, with one entry for each process
pub record IsConsensus {V : Type 0} (P : ProtocolOfRounds) (n : ℕ) (inputs : List V)
    (schedule : List ℕ) (decisions : List (Option V)) : Type 0 where
  pub entries : length decisions ≡ n
  pub agreement : Agrees decisions
  pub validity : IsValid inputs schedule decisions
  pub wait_free : IsWaitFree P n schedule decisions
