use Rattle.std.proofs.Common.{◌<◌, ℕ}
use Rattle.std.specs.Prelude.{IsBitSet}
use Rattle.cn_stocks.specs.Splits.{AreJoined}
use Rattle.cn_stocks.proofs.splits.touches.Given as goal

-- none of the operations so far that are reached is joined with the operation
abbrev pub invariant-loop-first : goal.invariant-loop-first
invariant-loop-first l = (f : ℕ) → f < l.first → IsBitSet l.fn.reached f
    → ¬ AreJoined l.setting.table.now l.fn.start l.setting.stock.now.operations.items f l.fn.operation
