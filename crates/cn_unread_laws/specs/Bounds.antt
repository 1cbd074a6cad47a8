-- What bounds of a number without reads say of all protocols.
-- Source: Herlihy, Wait-free synchronization, 1991: consensus numbers. Without reads: new here.
use Rattle.std.specs.Prelude.{ℕ, ◌≤◌, ◌<◌, ◌^◌}
use Rattle.cn_table.specs.TypeTable.{TypeTable}
use Rattle.cn_consensus.specs.Consensus.{IsConsensusProtocol}
use Rattle.cn_consensus.specs.Protocol.{IsProtocolOf, Protocol}
use Rattle.cn_consensus.specs.Types.{all_of}
use Rattle.cn_unread_number.specs.declared.bounds.NumberBounds.{NumberBounds}
use Rattle.cn_unread_number.specs.declared.bounds.NumberBounds.TheVariants.{AtLeast, Between, Exactly}
use Rattle.cn_unread_number.specs.declared.bounds.NumberBounds.TheVariants.{Infinite}
use Rattle.cn_unread_laws.specs.Reads.{IsWithoutReads}
use Rattle.cn_unread_laws.specs.Solving.{IsUnreadNumber, SolvesWithoutReads}

-- no protocol without reads solves consensus for more than n processes, with local states L and
-- register contents V
abbrev pub NoneAbove : (L V : Type 0) → TypeTable → ℕ → Type 0
NoneAbove L V t n = (m : ℕ) → n < m → (P : Protocol L V) → IsProtocolOf (all_of t) m P
    → IsWithoutReads m P → ¬ IsConsensusProtocol (all_of t) m P

-- the number is this one; each number of processes solves consensus; the number is from the one to
-- the other; it is at least this one
abbrev pub AreBoundsOf : (L V : Type 0) → TypeTable → NumberBounds → Type 0
AreBoundsOf L V t (Exactly n) = IsUnreadNumber L V t n
AreBoundsOf L V t Infinite = (n : ℕ) → 1 ≤ n → SolvesWithoutReads t n
AreBoundsOf L V t (Between least most) = SolvesWithoutReads t least × NoneAbove L V t most
AreBoundsOf L V t (AtLeast least) = SolvesWithoutReads t least

-- the numbers are below 2^64
abbrev pub AreSmall : NumberBounds → Type 0
AreSmall (Exactly n) = n < 2 ^ 64
AreSmall Infinite = Unit {0}
AreSmall (Between least most) = (least < 2 ^ 64) × (most < 2 ^ 64)
AreSmall (AtLeast least) = least < 2 ^ 64
