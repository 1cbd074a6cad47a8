use Rattle.std.proofs.Common.{◌<◌, ℕ}
use Rattle.cn_stocks.specs.Words.{Shows}
use Rattle.cn_stocks.proofs.splits.are_joined.Given as goal

-- words that begin with the two operations show none of the operations so far the same pair
abbrev pub invariant-loop-asked : goal.invariant-loop-asked
invariant-loop-asked l = (o r q : ℕ) → o < l.asked
    → Shows l.setting.table.now l.fn.start l.setting.stock.now.operations.items l.fn.f o r q
    → Shows l.setting.table.now l.fn.start l.setting.stock.now.operations.items l.fn.g o r q → ⊥
