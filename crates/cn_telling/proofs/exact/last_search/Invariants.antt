use Rattle.std.proofs.Common.{◌≤◌}
use Rattle.cn_telling.specs.Levels.{IsSearch}
use Rattle.cn_telling.specs.Telling.{SomeTells}
use Rattle.cn_telling.proofs.exact.last_search.Given as goal

-- the search is at n operations; where these are three or more, some stock of these tells
abbrev pub invariant-loop-n : goal.invariant-loop-n
invariant-loop-n g l = record {
  search_is : IsSearch l.table l.n l.search;
  tells : 3 ≤ l.n → SomeTells l.table l.n;
}
