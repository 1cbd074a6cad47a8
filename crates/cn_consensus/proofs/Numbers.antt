-- Above the number of a type no protocol solves consensus.
use Rattle.std.proofs.Common.{ℕ, ◌<◌, ◌≤◌, Some, None, arith}
use Rattle.cn_table.specs.TypeTable.{IsClosed, TypeTable}
use Rattle.cn_choice.specs.Discerning.{IsDiscerning, IsNumberUpTo}
use Rattle.cn_choice.proofs.NumberLemmas.FewerProcesses.{discerning_below}
use Rattle.cn_choice.proofs.NumberLemmas.GreatestNumbers as greatest
use Rattle.cn_consensus.specs.Consensus.{IsConsensusProtocol}
use Rattle.cn_consensus.specs.Protocol.{IsProtocolOf, Protocol}
use Rattle.cn_consensus.specs.Types.{all_of}
use Rattle.cn_consensus.proofs.Theorem.{consensus_discerns}

pub above : {L V : Type 0} (t : TypeTable) (limit n m : ℕ) (P : Protocol L V) → IsClosed t
    → IsNumberUpTo t limit (Some n) → n < limit → n < m → IsProtocolOf (all_of t) m P
    → IsConsensusProtocol (all_of t) m P → ⊥
above t limit n m P closed number l u known con =
    greatest.none_above (IsDiscerning t) (discerning_below t) limit n m number l u
    (consensus_discerns t m P closed (omega (arith, number.0, u)) known con)

pub none_at_all : {L V : Type 0} (t : TypeTable) (limit m : ℕ) (P : Protocol L V) → IsClosed t
    → IsNumberUpTo t limit None → 2 ≤ limit → 2 ≤ m → IsProtocolOf (all_of t) m P
    → IsConsensusProtocol (all_of t) m P → ⊥
none_at_all t limit m P closed number l u known con =
    greatest.none_at_all (IsDiscerning t) (discerning_below t) limit m number l u
    (consensus_discerns t m P closed u known con)
