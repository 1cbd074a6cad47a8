use Rattle.std.proofs.Common.{◌<◌, ◌↔◌, ℕ}
use Rattle.std.specs.Prelude.{IsBitSet}
use Rattle.cn_stocks.specs.Questions.{Holds}
use Rattle.cn_stocks.proofs.starts.starts.Given as goal

abbrev pub invariant-loop-start : goal.invariant-loop-start
invariant-loop-start l = (q : ℕ) → IsBitSet l.set q ↔ ((q < l.start) × Holds l.fn.question l.setting.table.now q l.setting.stock.now.operations.items)
