-- The number of a type is its consensus number.
use Rattle.std.proofs.Common.{◌≡◌, ℕ, ◌<◌, ◌≤◌, ◌↔◌, inl, inr, length, Bool, Option, Some, None}
use Rattle.std.proofs.Common.{arith}
use Rattle.std.proofs.lemmas.Bool.{cases_eq, cases_lt}
use Rattle.cn_table.specs.TypeTable.{IsClosed, TypeTable}
use Rattle.cn_choice.specs.Discerning.{IsDiscerning, IsNumberUpTo}
use Rattle.cn_agree.specs.declared.local.Local.{Local}
use Rattle.cn_consensus.specs.Consensus.{IsConsensusProtocol}
use Rattle.cn_consensus.specs.Protocol.{IsProtocolOf, Protocol}
use Rattle.cn_consensus.specs.Types.{all_of}
use Rattle.cn_solvable.specs.Solving.{IsConsensusNumber, SolvesConsensus}
use Rattle.cn_solvable.proofs.OneProcess.{one_alone}

-- what the law `witness_is_enough` says
abbrev pub WitnessIsEnough : Type 0
WitnessIsEnough = (t : TypeTable) (n : ℕ) → 2 ≤ n → IsDiscerning t n → SolvesConsensus t n

-- what laws of `cn_consensus` say
abbrev pub ConsensusNeedsWitness : Type 0 → Type 0 → Type 0
ConsensusNeedsWitness L V = (t : TypeTable) (n : ℕ) (P : Protocol L V) → IsClosed t → 2 ≤ n
    → IsProtocolOf (all_of t) n P → IsConsensusProtocol (all_of t) n P → IsDiscerning t n

abbrev pub NoneAbove : Type 0 → Type 0 → Type 0
NoneAbove L V = (t : TypeTable) (limit n m : ℕ) (P : Protocol L V) → IsClosed t
    → IsNumberUpTo t limit (Some n) → n < limit → n < m → IsProtocolOf (all_of t) m P
    → ¬ IsConsensusProtocol (all_of t) m P

abbrev pub NoneWithoutNumber : Type 0 → Type 0 → Type 0
NoneWithoutNumber L V = (t : TypeTable) (limit m : ℕ) (P : Protocol L V) → IsClosed t
    → IsNumberUpTo t limit None → 2 ≤ limit → 2 ≤ m → IsProtocolOf (all_of t) m P
    → ¬ IsConsensusProtocol (all_of t) m P

module _ (enough : WitnessIsEnough) where
  pub exactly : ConsensusNeedsWitness (Local Bool) (Option Bool) → (t : TypeTable) (n : ℕ)
      → IsClosed t → 2 ≤ n → SolvesConsensus t n ↔ IsDiscerning t n
  exactly needs t n closed two = (λ s. needs t n s.0 closed two s.1 s.2, enough t n two)

  pub by_a_round : {L V : Type 0} → ConsensusNeedsWitness L V → (t : TypeTable) (n : ℕ)
      (P : Protocol L V) → IsClosed t → 2 ≤ n → IsProtocolOf (all_of t) n P
      → IsConsensusProtocol (all_of t) n P → SolvesConsensus t n
  by_a_round needs t n P closed two known con = enough t n two (needs t n P closed two known con)

  pub at_least : (t : TypeTable) (limit n : ℕ) → IsNumberUpTo t limit (Some n)
      → SolvesConsensus t n
  at_least t limit n number = enough t n number.0 number.2

  pub found : {L V : Type 0} → NoneAbove L V → (t : TypeTable) (limit n : ℕ) → IsClosed t
      → IsNumberUpTo t limit (Some n) → n < limit → IsConsensusNumber L V t n
  found above t limit n closed number l = record {
    solves = at_least t limit n number;
    no_more = λ m u P known. above t limit n m P closed number l u known;
  }

-- there is only one consensus number
pub unique : (t : TypeTable) (m n : ℕ) → IsConsensusNumber (Local Bool) (Option Bool) t m
    → IsConsensusNumber (Local Bool) (Option Bool) t n → m ≡ n
unique t m n h k = elim (cases_eq m n) [
  | inl same ↦ same
  | inr apart ↦ elim (cases_lt m n) [
    | inl less ↦ absurd (h.no_more n less k.solves.0 k.solves.1 k.solves.2)
    | inr more ↦ absurd (k.no_more m (omega (arith, more, apart)) h.solves.0 h.solves.1
        h.solves.2)
  ]
]

-- a type with no number has consensus number 1
pub without : {L V : Type 0} → NoneWithoutNumber L V → (t : TypeTable) (limit : ℕ) → IsClosed t
    → 0 < length t.states → 2 ≤ limit → IsNumberUpTo t limit None → IsConsensusNumber L V t 1
without none t limit closed some l number = record {
  solves = one_alone t some;
  no_more = λ m u P known. none t limit m P closed number l (omega (arith, u)) known;
}
