use Rattle.cn_stocks.specs.declared.question.Question.TheVariants.{Splitting}
use Rattle.cn_stocks.specs.Levels.{IsSearchFor}
use Rattle.cn_stocks.proofs.decision.splitting_starts.Given as goal

-- the search is at so many operations
abbrev pub invariant-loop-size : goal.invariant-loop-size
invariant-loop-size g l = IsSearchFor Splitting l.table l.size l.search
