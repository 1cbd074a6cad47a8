use Rattle.std.proofs.Common.{◌≡◌, ◌<◌, ℕ, Some, None}
use Rattle.std.specs.Prelude.{IsBitSet, slice_index, slice_index_or}
use Rattle.cn_telling.proofs.levels.less_starts.Given as goal

-- the states of the stocks with one of the operations so far less
abbrev pub invariant-loop-operation : goal.invariant-loop-operation
invariant-loop-operation l = (x j q : ℕ) → x < l.operation → slice_index_or l.stock.less x None ≡ Some j → IsBitSet (slice_index l.level.starts.items j) q
    → IsBitSet l.set q
