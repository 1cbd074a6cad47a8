-- Types that solve consensus, and their consensus numbers.
-- Source: Herlihy, Wait-free synchronization, 1991.
use Rattle.std.specs.Prelude.{ℕ, ◌<◌, Bool, Option}
use Rattle.cn_table.specs.TypeTable.{TypeTable}
use Rattle.cn_agree.specs.declared.local.Local.{Local}
use Rattle.cn_consensus.specs.Consensus.{IsConsensusProtocol}
use Rattle.cn_consensus.specs.Protocol.{IsProtocolOf, Protocol}
use Rattle.cn_consensus.specs.Types.{all_of}

-- objects of the type, with registers, solve wait-free consensus for n processes: some protocol
-- does, and it has the local states and the registers of rounds
abbrev pub SolvesConsensus : TypeTable → ℕ → Type 0
SolvesConsensus t n = (P : Protocol (Local Bool) (Option Bool)) × IsProtocolOf (all_of t) n P ×
    IsConsensusProtocol (all_of t) n P

-- n is the consensus number of the type: the type solves consensus for n processes, and no protocol
-- solves it for more, with local states L and register contents V
pub record IsConsensusNumber (L V : Type 0) (t : TypeTable) (n : ℕ) : Type 0 where
  pub solves : SolvesConsensus t n
  pub no_more : (m : ℕ) → n < m → (P : Protocol L V) → IsProtocolOf (all_of t) m P
      → ¬ IsConsensusProtocol (all_of t) m P
