use Rattle.std.proofs.Common.{ℕ, ◌<◌, ◌↔◌}
use Rattle.std.specs.Prelude.{IsBitSet}
use Rattle.cn_collisions.specs.Exact.{EndsAfter}
use Rattle.cn_collisions.proofs.word_sets.ends_ever.Given as goal

-- the states of the rows so far
abbrev pub invariant-loop-row : goal.invariant-loop-row
invariant-loop-row l = (q : ℕ) → IsBitSet l.set q ↔ ((k : ℕ) × (k < l.row-index) × EndsAfter l.setting.table.now l.fn.start l.setting.stock.now.operations.items k q)
