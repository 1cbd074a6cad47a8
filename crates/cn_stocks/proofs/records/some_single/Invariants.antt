use Rattle.std.proofs.Common.{◌<◌, ℕ}
use Rattle.cn_stocks.specs.Meetings.{IsSingle}
use Rattle.cn_stocks.proofs.records.some_single.Given as goal

-- none of the operations so far is single
abbrev pub invariant-loop-operation : goal.invariant-loop-operation
invariant-loop-operation l = (f : ℕ) → f < l.operation → ¬ IsSingle l.setting.stock.now.operations.items l.sets l.fn.start f
