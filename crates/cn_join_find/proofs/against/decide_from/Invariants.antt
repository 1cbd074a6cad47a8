use Rattle.std.proofs.Common.{◌-◌, All}
use Rattle.cn_telling.specs.Levels.{IsSearch}
use Rattle.cn_join_find.specs.Marks.{AreMarked}
use Rattle.cn_join_find.specs.Reached.{AreMore, IsJoinFrom}
use Rattle.cn_join_find.proofs.against.decide_from.Given as goal

-- the search is at one operation less, with the marks of its stocks
abbrev pub invariant-loop-size : goal.invariant-loop-size
invariant-loop-size g l = record {
  search_is : IsSearch l.table (l.size - 1) l.search;
  more : AreMore l.table l.fn.start l.fn.joins.items l.joins.items;
  are : All (IsJoinFrom l.table l.fn.start) l.joins.items;
  marked : AreMarked l.table l.fn.start l.joins.items l.search.stocks.list.items l.marks.items;
}
