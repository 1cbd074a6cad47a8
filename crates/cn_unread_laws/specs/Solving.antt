-- Types that solve consensus without reads.
use Rattle.std.specs.Prelude.{ℕ, ◌<◌, Bool, Option}
use Rattle.cn_table.specs.TypeTable.{TypeTable}
use Rattle.cn_agree.specs.declared.local.Local.{Local}
use Rattle.cn_consensus.specs.Consensus.{IsConsensusProtocol}
use Rattle.cn_consensus.specs.Protocol.{IsProtocolOf, Protocol}
use Rattle.cn_consensus.specs.Types.{all_of}
use Rattle.cn_unread_laws.specs.Reads.{IsWithoutReads}

-- objects of the type, with registers, solve wait-free consensus for n processes with no read of an
-- object: some protocol does, and it has the local states and the registers of rounds
abbrev pub SolvesWithoutReads : TypeTable → ℕ → Type 0
SolvesWithoutReads t n = (P : Protocol (Local Bool) (Option Bool)) × IsProtocolOf (all_of t) n P
    × IsWithoutReads n P × IsConsensusProtocol (all_of t) n P

-- n is the consensus number of the type without reads: the type solves consensus for n processes
-- with no read of an object, and no protocol without reads solves it for more, with local states L
-- and register contents V
pub record IsUnreadNumber (L V : Type 0) (t : TypeTable) (n : ℕ) : Type 0 where
  pub solves : SolvesWithoutReads t n
  pub no_more : (m : ℕ) → n < m → (P : Protocol L V) → IsProtocolOf (all_of t) m P → IsWithoutReads m P
      → ¬ IsConsensusProtocol (all_of t) m P
