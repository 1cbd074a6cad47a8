-- Above the greatest number for which a type is defended, no protocol without reads solves consensus.
use Rattle.std.proofs.Common.{ℕ, zero, suc, ◌+◌, ◌-◌, ◌<◌, ◌≤◌, Some, None, arith, subst}
use Rattle.cn_table.specs.TypeTable.{IsClosed, TypeTable}
use Rattle.cn_choice.specs.GreatestNumbers.{IsGreatestUpTo}
use Rattle.cn_choice.proofs.NumberLemmas.GreatestNumbers as greatest
use Rattle.cn_consensus.specs.Consensus.{IsConsensusProtocol}
use Rattle.cn_consensus.specs.Protocol.{IsProtocolOf, Protocol}
use Rattle.cn_consensus.specs.Types.{all_of}
use Rattle.cn_unread_laws.specs.Reads.{IsWithoutReads}
use Rattle.cn_unread.specs.Defended.{IsDefendedFor}
use Rattle.cn_unread_laws.proofs.Defences.{some_defended}
use Rattle.cn_unread.proofs.Parts.{defended_below}

pub is_defended_for : {L V : Type 0} (t : TypeTable) (n : ℕ) (P : Protocol L V) → IsClosed t
    → 2 ≤ n → IsProtocolOf (all_of t) n P → IsWithoutReads n P → IsConsensusProtocol (all_of t) n P
    → IsDefendedFor t n
is_defended_for t n P closed two known unread con =
    (some_defended (all_of t) n P (λ i. closed) two known unread con).1

pub above : {L V : Type 0} (t : TypeTable) (limit n m : ℕ) (P : Protocol L V) → IsClosed t
    → IsGreatestUpTo (IsDefendedFor t) limit (Some n) → n < limit → n < m
    → IsProtocolOf (all_of t) m P → IsWithoutReads m P → IsConsensusProtocol (all_of t) m P → ⊥
above t limit n m P closed number l u known unread con =
    greatest.none_above (IsDefendedFor t) (defended_below t) limit n m number l u
    (is_defended_for t m P closed (omega (arith, number.0, u)) known unread con)

pub none_at_all : {L V : Type 0} (t : TypeTable) (limit m : ℕ) (P : Protocol L V) → IsClosed t
    → IsGreatestUpTo (IsDefendedFor t) limit None → 2 ≤ limit → 2 ≤ m
    → IsProtocolOf (all_of t) m P → IsWithoutReads m P → IsConsensusProtocol (all_of t) m P → ⊥
none_at_all t limit m P closed number l u known unread con =
    greatest.none_at_all (IsDefendedFor t) (defended_below t) limit m number l u
    (is_defended_for t m P closed u known unread con)

down : (t : TypeTable) (n k : ℕ) → 2 ≤ n → IsDefendedFor t (n + k) → IsDefendedFor t n
down t n zero l d = subst (IsDefendedFor t) (omega arith) d
down t n (suc k) l d = down t n k l (subst (IsDefendedFor t) (omega arith)
    (defended_below t (n + suc k) (omega arith) d))

pub none_from : {L V : Type 0} (t : TypeTable) (n m : ℕ) (P : Protocol L V) → IsClosed t → 2 ≤ n
    → n ≤ m → (IsDefendedFor t n → ⊥) → IsProtocolOf (all_of t) m P → IsWithoutReads m P
    → IsConsensusProtocol (all_of t) m P → ⊥
none_from t n m P closed two l not known unread con = not (down t n (m - n) two
    (subst (IsDefendedFor t) (omega (arith, l))
    (is_defended_for t m P closed (omega (arith, two, l)) known unread con)))
