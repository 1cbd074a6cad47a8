-- A type with a consensus protocol for n processes is n-discerning.
use Rattle.std.proofs.Common.{ℕ, ◌≤◌}
use Rattle.cn_table.specs.TypeTable.{IsClosed, TypeTable}
use Rattle.cn_choice.specs.Discerning.{IsDiscerning}
use Rattle.cn_consensus.specs.Configuration.{after, initial}
use Rattle.cn_consensus.specs.Consensus.{IsConsensusProtocol}
use Rattle.cn_consensus.specs.Protocol.{IsProtocolOf, Protocol}
use Rattle.cn_consensus.specs.Types.{all_of}
use Rattle.cn_consensus.proofs.FirstConfiguration.{critical, two_inputs}
use Rattle.cn_consensus.proofs.Witnesses.{discerning}

-- of the types of the objects, one is discerning
pub some_discerns : {L V : Type 0} (t : ℕ → TypeTable) (n : ℕ) (P : Protocol L V)
    → ((i : ℕ) → IsClosed (t i)) → 2 ≤ n → IsProtocolOf t n P → IsConsensusProtocol t n P
    → (i : ℕ) × IsDiscerning (t i) n
some_discerns t n P closed two known con =
    let found = critical t n P con closed known two in
    discerning t n P known (after t P (initial P (two_inputs t n P con)) found.0) found.2

pub consensus_discerns : {L V : Type 0} (t : TypeTable) (n : ℕ) (P : Protocol L V) → IsClosed t
    → 2 ≤ n → IsProtocolOf (all_of t) n P → IsConsensusProtocol (all_of t) n P → IsDiscerning t n
consensus_discerns t n P closed two known con =
    (some_discerns (all_of t) n P (λ i. closed) two known con).1
