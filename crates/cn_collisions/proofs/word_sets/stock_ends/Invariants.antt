use Rattle.std.proofs.Common.{length}
use Rattle.cn_stocks.specs.Each.{EachAt}
use Rattle.cn_collisions.specs.Exact.{AreEndsAfter}
use Rattle.cn_collisions.proofs.word_sets.stock_ends.Given as goal

abbrev pub invariant-loop-count : goal.invariant-loop-count
invariant-loop-count l = EachAt (λ k row. AreEndsAfter l.setting.table.now l.setting.stock.now.operations.items k (length l.setting.table.now.states) row) l.count l.by_count.items
