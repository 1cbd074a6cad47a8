use Rattle.std.proofs.Common.{◌≤◌}
use Rattle.cn_stocks.specs.declared.question.Question.TheVariants.{Splitting}
use Rattle.cn_stocks.specs.Levels.{IsSearchFor}
use Rattle.cn_stocks.specs.Splits.{SomeSplits}
use Rattle.cn_stocks.proofs.decision.is_discerning.Given as goal

-- the search is at so many operations, and some stock of these splits
abbrev pub invariant-loop-size : goal.invariant-loop-size
invariant-loop-size g l = record {
  search_is : IsSearchFor Splitting l.table l.size l.search;
  splits : 3 ≤ l.size → SomeSplits l.table l.size;
}
