use Rattle.std.proofs.Common.{◌<◌, ℕ}
use Rattle.std.specs.Prelude.{IsBitSet}
use Rattle.cn_stocks.specs.Components.{AreReached, IsJoinedWithSome}
use Rattle.cn_stocks.proofs.splits.grow.Given as goal

-- the operations so far that are joined with one of those at first are in it
abbrev pub invariant-loop-operation : goal.invariant-loop-operation
invariant-loop-operation l = record {
  reached : AreReached l.setting.table.now l.fn.start l.setting.stock.now.operations.items l.fn.first l.grown;
  kept : (g : ℕ) → IsBitSet l.fn.reached g → IsBitSet l.grown g;
  closed : (g : ℕ) → g < l.operation → IsJoinedWithSome l.setting.table.now l.fn.start l.setting.stock.now.operations.items l.fn.reached g
      → IsBitSet l.grown g;
}
