-- Which number of a type is told.
use Rattle.std.specs.Prelude.{◌≡◌}
use Rattle.cn_table.specs.TypeTable.{TypeTable}
use Rattle.cn_search.specs.Numbers.{HasNumber}
use Rattle.cn_search.specs.declared.exact.ConsensusNumber.{ConsensusNumber}
use Rattle.cn_recover.specs.Recording.{HasRecoverableNumber}
use Rattle.cn_unread_number.specs.Bounds.{HasUnreadNumber, as_bounds}
use Rattle.cn_unread_number.specs.declared.bounds.NumberBounds.{NumberBounds}
use Rattle.cn_changes.specs.declared.kind.NumberKind.{NumberKind}
use Rattle.cn_changes.specs.declared.kind.NumberKind.TheVariants.{Consensus, Recoverable, WithoutReads}

-- this is the consensus number of the type, or its recoverable number, or what is known of its number
-- without reads
abbrev pub HasNumberOf : NumberKind → TypeTable → NumberBounds → Type 0
HasNumberOf Consensus t bounds =
    (n : ConsensusNumber) × HasNumber t n × (bounds ≡ as_bounds n)
HasNumberOf Recoverable t bounds =
    (n : ConsensusNumber) × HasRecoverableNumber t n × (bounds ≡ as_bounds n)
HasNumberOf WithoutReads t bounds = HasUnreadNumber t bounds
