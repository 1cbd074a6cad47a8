use Rattle.std.proofs.Common.{ℕ}
use Rattle.cn_stocks.specs.Pairs.{Has}
use Rattle.cn_stocks.specs.Reach.{ShowsAtOnce}
use Rattle.cn_stocks.proofs.Steps.{Gathered, ShowsPart}
use Rattle.cn_telling.proofs.shown.shown_from.Given as goal

-- the pairs by words that begin with the operations so far
abbrev pub invariant-loop-operation : goal.invariant-loop-operation
invariant-loop-operation l = (r q : ℕ)
    → Gathered (ShowsAtOnce l.asking.setting.table.now l.fn.start l.asking.setting.stock.now.operations.items l.asking.asked r q)
    (ShowsPart l.asking.setting.table.now l.fn.start l.asking.setting.stock.now.operations.items l.asking.asked r q) l.operation (Has l.set r q)
