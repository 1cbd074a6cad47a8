-- What is known of the consensus number of a type whose objects are not read.
-- Source: Herlihy, Wait-free synchronization, 1991: consensus numbers. Bounds without reads are new
-- here.
use Rattle.std.specs.Prelude.{ℕ, ◌+◌, ◌≤◌, ◌<◌, Option, Some, None}
use Rattle.cn_table.specs.TypeTable.{IsTypeTable, TypeTable}
use Rattle.cn_choice.specs.Discerning.{IsDiscerning}
use Rattle.cn_search.specs.declared.exact.ConsensusNumber.{ConsensusNumber}
use Rattle.cn_search.specs.declared.exact.ConsensusNumber.TheVariants as reads
use Rattle.cn_unread.specs.Collects.{IsVisibleFor}
use Rattle.cn_unread.specs.Defended.{IsDefendedFor}
use Rattle.cn_unread.specs.Enough.{IsEnoughFor}
use Rattle.cn_unread.specs.Merging.{IsMerged}
use Rattle.cn_unread_number.specs.declared.bounds.NumberBounds.{NumberBounds}
use Rattle.cn_unread_number.specs.declared.bounds.NumberBounds.TheVariants.{AtLeast, Between, Exactly}
use Rattle.cn_unread_number.specs.declared.bounds.NumberBounds.TheVariants.{Infinite}

-- the number is at least n: something is enough for n processes, if these are 2 or more
abbrev pub IsLeast : TypeTable → ℕ → Type 0
IsLeast t n = (1 ≤ n) × (2 ≤ n → IsEnoughFor t n)

-- the number is at most n: the type is not defended for one process more
abbrev pub IsMost : TypeTable → ℕ → Type 0
IsMost t n = ¬ IsDefendedFor t (n + 1)

abbrev pub AreBounds : TypeTable → NumberBounds → Type 0
AreBounds t (Exactly n) = IsLeast t n × IsMost t n
AreBounds t Infinite = (n : ℕ) → 2 ≤ n → IsEnoughFor t n
AreBounds t (Between least most) = IsLeast t least × IsMost t most × (least < most)
AreBounds t (AtLeast least) = IsLeast t least

-- these are bounds of a type to which the states of the type are merged
abbrev pub HasUnreadNumber : TypeTable → NumberBounds → Type 0
HasUnreadNumber t bounds =
    (h : ℕ → ℕ) × (u : TypeTable) × IsTypeTable u × IsMerged h t u × AreBounds u bounds

-- for as many processes as the type is discerning, it is visible
abbrev pub NeedsNoReads : TypeTable → Type 0
NeedsNoReads t = (n : ℕ) → IsDiscerning t n → IsVisibleFor t n

-- the number with reads, as bounds of the number without
abbrev pub as_bounds : ConsensusNumber → NumberBounds
as_bounds (reads.Finite n) = Exactly n
as_bounds reads.Infinite = Infinite

-- the greatest number that a type can have without reads, by its number with reads
abbrev pub most_with_reads : ConsensusNumber → Option ℕ
most_with_reads (reads.Finite n) = Some n
most_with_reads reads.Infinite = None
