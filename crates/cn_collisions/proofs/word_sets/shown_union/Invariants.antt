use Rattle.std.proofs.Common.{ℕ, ◌<◌, ◌↔◌}
use Rattle.cn_stocks.specs.Pairs.{Has}
use Rattle.cn_collisions.specs.Exact.{ShowsAfter}
use Rattle.cn_collisions.proofs.word_sets.shown_union.Given as goal

-- the pairs of the rows so far
abbrev pub invariant-loop-rows : goal.invariant-loop-rows
invariant-loop-rows l = (r q : ℕ) → Has l.set r q ↔ ((k : ℕ) × (k < l.rows-index) × ShowsAfter l.setting.table.now l.fn.start l.setting.stock.now.operations.items l.fn.asked k r q)
