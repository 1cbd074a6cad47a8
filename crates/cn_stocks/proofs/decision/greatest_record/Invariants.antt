use Rattle.std.proofs.Common.{◌≡◌, ◌≤◌, Some, None}
use Rattle.cn_stocks.specs.declared.question.Question.TheVariants.{Recording}
use Rattle.cn_stocks.specs.Levels.{IsSearchFor}
use Rattle.cn_stocks.specs.Records.{SomeRecords}
use Rattle.cn_stocks.proofs.decision.greatest_record.Given as goal

-- the search is at n operations; where these are two or more, some stock of these records
abbrev pub invariant-loop-n : goal.invariant-loop-n
invariant-loop-n g l = record {
  search_is : IsSearchFor Recording l.table l.n l.search;
  found : 2 ≤ l.n → (l.greatest ≡ Some l.n) × SomeRecords l.table l.n;
  none : l.n ≤ 1 → l.greatest ≡ None;
}
