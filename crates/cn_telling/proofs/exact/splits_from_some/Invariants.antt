use Rattle.std.proofs.Common.{◌<◌, ℕ}
use Rattle.cn_stocks.specs.Splits.{StockSplits}
use Rattle.cn_telling.proofs.exact.splits_from_some.Given as goal

-- it splits from none of the states so far
abbrev pub invariant-loop-start : goal.invariant-loop-start
invariant-loop-start l = (q : ℕ) → q < l.start → ¬ StockSplits l.table q l.stock.operations.items
