use Rattle.cn_stocks.specs.Each.{EachAt}
use Rattle.cn_collisions.specs.WordSets.{AreSets}
use Rattle.cn_collisions.proofs.word_sets.shown_rows.Given as goal

abbrev pub invariant-loop-asked : goal.invariant-loop-asked
invariant-loop-asked l = EachAt (λ o sets. AreSets l.setting.table.now l.setting.stock.now.operations.items l.fn.count o sets.items) l.asked l.rows.items
