use Rattle.std.proofs.Common.{◌-◌, ◌↔◌, All}
use Rattle.std.specs.Prelude.{IsBitSet, IsTrue, slice_index}
use Rattle.cn_join_find.specs.Reached.{AreMore, AreReached, Covers, IsJoinFrom}
use Rattle.cn_join_find.proofs.connect.connect_within.Given as goal

-- the joins so far connect these operations with the first one
abbrev pub invariant-loop-is_whole : goal.invariant-loop-is_whole
invariant-loop-is_whole l = record {
  first_in : IsBitSet l.set (slice_index l.stock 0);
  reached : AreReached l.joins.items l.fn.start l.stock (slice_index l.stock 0) l.set;
  more : AreMore l.cells.table.now l.fn.start l.fn.joins.items l.joins.items;
  are : All (IsJoinFrom l.cells.table.now l.fn.start) l.joins.items;
  whole : IsTrue l.is_whole ↔ Covers l.set l.stock;
}

abbrev pub decreases-loop-is_whole : goal.decreases-loop-is_whole
decreases-loop-is_whole l = 65536 - l.set
