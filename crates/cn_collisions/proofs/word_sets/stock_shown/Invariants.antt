use Rattle.cn_stocks.specs.Each.{EachAt}
use Rattle.cn_collisions.specs.WordSets.{AreShownRows}
use Rattle.cn_collisions.proofs.word_sets.stock_shown.Given as goal

abbrev pub invariant-loop-count : goal.invariant-loop-count
invariant-loop-count l = EachAt (λ k rows. AreShownRows l.setting.table.now l.setting.stock.now.operations.items k rows.items) l.count l.by_count.items
