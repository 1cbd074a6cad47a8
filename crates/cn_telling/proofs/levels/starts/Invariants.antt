use Rattle.std.proofs.Common.{◌<◌, ◌↔◌, ℕ}
use Rattle.std.specs.Prelude.{IsBitSet}
use Rattle.cn_telling.specs.Telling.{Tells}
use Rattle.cn_telling.proofs.levels.starts.Given as goal

abbrev pub invariant-loop-start : goal.invariant-loop-start
invariant-loop-start l = (q : ℕ) → IsBitSet l.set q ↔ ((q < l.start) × Tells l.table q l.stock.operations.items)
