-- The recoverable number that is found is the recoverable consensus number.
use Rattle.std.proofs.Common.{◌≡◌, ℕ, ◌<◌, ◌≤◌, length, arith, Option, Some, None, inl}
use Rattle.std.proofs.Common.{inr, Bool}
use Rattle.std.proofs.lemmas.Bool.{cases_order}
use Rattle.cn_table.specs.TypeTable.{IsClosed, TypeTable}
use Rattle.cn_choice.specs.GreatestNumbers.{PassesDown}
use Rattle.cn_choice.proofs.NumberLemmas.GreatestNumbers as greatest
use Rattle.cn_consensus.specs.Protocol.{IsProtocolOf, Protocol}
use Rattle.cn_consensus.specs.Types.{all_of}
use Rattle.cn_recover.specs.Recording.{IsRecording, IsRecoverableNumberUpTo}
use Rattle.cn_crashes.specs.RecoverableConsensus.{IsRecoverableConsensusProtocol}
use Rattle.cn_crashes.specs.RecoverableConsensusNumber.{IsRecoverableConsensusNumber}
use Rattle.cn_crashes.specs.RecoverableConsensusNumber.{SolvesRecoverableConsensus}
use Rattle.cn_crashes.specs.RecoverableRound.{RecoverableLocal}
use Rattle.cn_crashes.proofs.LawsBelow.{RecordingIsEnough}
use Rattle.cn_crashes.proofs.OneProcess.{alone_solves}
use Rattle.cn_crashes.proofs.Search.{consensus_records}

module _ (down : (t : TypeTable) → PassesDown (IsRecording t)) where
  pub above : {L V : Type 0} (t : TypeTable) (limit n m : ℕ) (P : Protocol L V) → IsClosed t
      → IsRecoverableNumberUpTo t limit (Some n) → n < limit → n < m
      → IsProtocolOf (all_of t) m P → ¬ IsRecoverableConsensusProtocol (all_of t) m P
  above t limit n m P closed number l u known con =
      greatest.none_above (IsRecording t) (down t) limit n m number l u
      (consensus_records t m P closed (omega (arith, number.0, u)) known con)

  pub without : {L V : Type 0} (t : TypeTable) (limit m : ℕ) (P : Protocol L V) → IsClosed t
      → IsRecoverableNumberUpTo t limit None → 2 ≤ limit → 2 ≤ m
      → IsProtocolOf (all_of t) m P → ¬ IsRecoverableConsensusProtocol (all_of t) m P
  without t limit m P closed number l two known con =
      greatest.none_at_all (IsRecording t) (down t) limit m number l two
      (consensus_records t m P closed two known con)

-- what the law `none_above_the_recoverable_number` says
abbrev pub NoneAbove : Type 0 → Type 0 → Type 0
NoneAbove L V = (t : TypeTable) (limit n m : ℕ) (P : Protocol L V) → IsClosed t
    → IsRecoverableNumberUpTo t limit (Some n) → n < limit → n < m
    → IsProtocolOf (all_of t) m P → ¬ IsRecoverableConsensusProtocol (all_of t) m P

abbrev pub NoneWithoutNumber : Type 0 → Type 0 → Type 0
NoneWithoutNumber L V = (t : TypeTable) (limit m : ℕ) (P : Protocol L V) → IsClosed t
    → IsRecoverableNumberUpTo t limit None → 2 ≤ limit → 2 ≤ m
    → IsProtocolOf (all_of t) m P → ¬ IsRecoverableConsensusProtocol (all_of t) m P

pub at_least : RecordingIsEnough → (t : TypeTable) (limit n : ℕ)
    → IsRecoverableNumberUpTo t limit (Some n) → SolvesRecoverableConsensus t n
at_least enough t limit n number = enough t n number.0 number.2

pub found : RecordingIsEnough → {L V : Type 0} → NoneAbove L V → (t : TypeTable) (limit n : ℕ)
    → IsClosed t → IsRecoverableNumberUpTo t limit (Some n) → n < limit
    → IsRecoverableConsensusNumber L V t n
found enough none_above t limit n closed number l = record {
  solves = at_least enough t limit n number;
  no_more = λ m u P. none_above t limit n m P closed number l u;
}

pub none : {L V : Type 0} → NoneWithoutNumber L V → (t : TypeTable) (limit : ℕ) → IsClosed t
    → 0 < length t.states → 2 ≤ limit → IsRecoverableNumberUpTo t limit None
    → IsRecoverableConsensusNumber L V t 1
none none_above t limit closed some l number = record {
  solves = alone_solves t some;
  no_more = λ m u P. none_above t limit m P closed number l (omega (arith, u));
}

-- the greater of two numbers would be solved for, and not be solved for
not_less : (t : TypeTable) (m n : ℕ)
    → IsRecoverableConsensusNumber RecoverableLocal (Option Bool) t m
    → IsRecoverableConsensusNumber RecoverableLocal (Option Bool) t n → m < n → ⊥
not_less t m n h k l = h.no_more n l k.solves.0 k.solves.1 k.solves.2

pub unique : (t : TypeTable) (m n : ℕ)
    → IsRecoverableConsensusNumber RecoverableLocal (Option Bool) t m
    → IsRecoverableConsensusNumber RecoverableLocal (Option Bool) t n → m ≡ n
unique t m n h k = elim (cases_order m n) [
  | inl same ↦ same
  | inr apart ↦ elim apart [
    | inl less ↦ absurd (not_less t m n h k less)
    | inr more ↦ absurd (not_less t n m k h more)
  ]
]
