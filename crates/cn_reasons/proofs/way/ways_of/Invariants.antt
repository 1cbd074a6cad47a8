use Rattle.std.proofs.Common.{All, take}
use Rattle.std.specs.List.{AllZip}
use Rattle.cn_reasons.specs.Known.{IsKnownWay}
use Rattle.cn_reasons.specs.Ways.{IsWayOf}
use Rattle.cn_reasons.proofs.way.ways_of.Given as goal

-- the ways of the entries so far
abbrev pub invariant-loop-entry : goal.invariant-loop-entry
invariant-loop-entry l = record {
  ways : AllZip (IsWayOf l.table) (take l.entry-index l.entries) l.ways.items;
  known : All (IsKnownWay l.table) l.ways.items;
}
