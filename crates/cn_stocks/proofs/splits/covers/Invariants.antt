use Rattle.std.proofs.Common.{◌<◌, ◌≤◌, ℕ}
use Rattle.std.specs.Prelude.{IsBitSet}
use Rattle.cn_stocks.specs.Words.{times}
use Rattle.cn_stocks.proofs.splits.covers.Given as goal

-- the operations so far are in the set
abbrev pub invariant-loop-operation : goal.invariant-loop-operation
invariant-loop-operation l = (g : ℕ) → g < l.operation → 1 ≤ times g l.setting.stock.now.operations.items → IsBitSet l.fn.set g
