use Rattle.std.proofs.Common.{◌-◌}
use Rattle.std.specs.Prelude.{IsBitSet}
use Rattle.cn_stocks.specs.Components.{AreReached}
use Rattle.cn_stocks.proofs.splits.splits_from.Given as goal

-- these are reached from the greatest
abbrev pub invariant-loop-left : goal.invariant-loop-left
invariant-loop-left l = record {
  first_in : IsBitSet l.reached l.setting.stock.now.greatest;
  are : AreReached l.setting.table.now l.fn.start l.setting.stock.now.operations.items l.setting.stock.now.greatest l.reached;
}

abbrev pub decreases-loop-left : goal.decreases-loop-left
decreases-loop-left l = 65536 - l.reached
