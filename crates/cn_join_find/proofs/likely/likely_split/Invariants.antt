use Rattle.cn_telling.specs.Levels.{IsSearch}
use Rattle.cn_join_find.proofs.likely.likely_split.Given as goal

-- the search is at as many operations
abbrev pub invariant-loop-size : goal.invariant-loop-size
invariant-loop-size g l = IsSearch l.table l.size l.search
