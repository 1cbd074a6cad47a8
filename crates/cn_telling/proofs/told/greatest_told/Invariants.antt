use Rattle.std.proofs.Common.{◌≡◌, ◌≤◌, Some, None}
use Rattle.cn_telling.specs.Levels.{IsSearch}
use Rattle.cn_telling.specs.Telling.{SomeTells}
use Rattle.cn_telling.proofs.told.greatest_told.Given as goal

-- the search is at n operations; where these are two or more, some stock of these tells
abbrev pub invariant-loop-n : goal.invariant-loop-n
invariant-loop-n g l = record {
  search_is : IsSearch l.table l.n l.search;
  found : 2 ≤ l.n → (l.greatest ≡ Some l.n) × SomeTells l.table l.n;
  none : l.n ≤ 1 → l.greatest ≡ None;
}
