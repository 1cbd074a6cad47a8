-- Types that solve recoverable consensus, and their recoverable consensus numbers.
-- Source: Golab, The recoverable consensus hierarchy, 2020.
use Rattle.std.specs.Prelude.{ℕ, ◌-◌, ◌*◌, ◌<◌, Bool, Option}
use Rattle.cn_table.specs.TypeTable.{TypeTable}
use Rattle.cn_consensus.specs.Protocol.{IsProtocolOf, Protocol}
use Rattle.cn_consensus.specs.Types.{all_of}
use Rattle.cn_crashes.specs.RecoverableConsensus.{IsRecoverableConsensusProtocol}
use Rattle.cn_crashes.specs.RecoverableRound.{RecoverableLocal}
use Rattle.cn_crashes.specs.RecoverableWaitFreedom.{DecidesWithin}

-- objects of the type, with registers, solve recoverable consensus for n processes, with at most
-- 6 (n - 1) own steps in each life: some protocol does, and it has the local states and the
-- registers of recoverable rounds
abbrev pub SolvesRecoverableConsensus : TypeTable → ℕ → Type 0
SolvesRecoverableConsensus t n = (P : Protocol RecoverableLocal (Option Bool))
    × IsProtocolOf (all_of t) n P × IsRecoverableConsensusProtocol (all_of t) n P
    × ((inputs : ℕ → Bool) → DecidesWithin (all_of t) n P inputs (6 * (n - 1)))

-- n is the recoverable consensus number of the type: the type solves recoverable consensus for n
-- processes, and no protocol solves it for more, with local states L and register contents V
pub record IsRecoverableConsensusNumber (L V : Type 0) (t : TypeTable) (n : ℕ) : Type 0 where
  pub solves : SolvesRecoverableConsensus t n
  pub no_more : (m : ℕ) → n < m → (P : Protocol L V) → IsProtocolOf (all_of t) m P
      → ¬ IsRecoverableConsensusProtocol (all_of t) m P
