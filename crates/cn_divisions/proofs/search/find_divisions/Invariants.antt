use Rattle.std.proofs.Common.{◌+◌, ◌-◌}
use Rattle.cn_stocks.specs.Each.{EachAt}
use Rattle.cn_divisions.specs.Divisions.{AreDivisions}
use Rattle.cn_divisions.specs.Levels.{AreAllStarts}
use Rattle.cn_divisions.specs.Searches.{IsSearch}
use Rattle.cn_divisions.proofs.search.find_divisions.Given as goal

abbrev pub invariant-loop-n : goal.invariant-loop-n
invariant-loop-n l = record {
  search_is : IsSearch l.table l.n l.search;
  starts_are : AreAllStarts l.table l.sights l.search.stocks.list.items l.starts.items;
  each : EachAt (λ i d. AreDivisions l.table l.sights (i + 2) d) (l.n - 1) l.all.items;
}
