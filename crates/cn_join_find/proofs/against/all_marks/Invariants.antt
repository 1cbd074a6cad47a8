use Rattle.std.proofs.Common.{◌≡◌, All, length}
use Rattle.cn_join_find.specs.Reached.{AreMore, IsJoinFrom}
use Rattle.cn_join_find.proofs.MarkLemmas.{AreMarkedFirst}
use Rattle.cn_join_find.proofs.against.all_marks.Given as goal

-- the marks of the stocks so far
abbrev pub invariant-loop-place : goal.invariant-loop-place
invariant-loop-place l = record {
  more : AreMore l.table l.fn.start l.fn.joins.items l.joins.items;
  are : All (IsJoinFrom l.table l.fn.start) l.joins.items;
  count : length l.all.items ≡ l.place;
  marked : AreMarkedFirst l.table l.fn.start l.joins.items l.search.stocks.list.items l.all.items;
}
