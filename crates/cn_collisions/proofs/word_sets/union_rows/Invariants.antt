use Rattle.cn_stocks.specs.Each.{EachAt}
use Rattle.cn_collisions.specs.WordSets.{AreUnions}
use Rattle.cn_collisions.proofs.word_sets.union_rows.Given as goal

abbrev pub invariant-loop-asked : goal.invariant-loop-asked
invariant-loop-asked l = EachAt (λ o sets. AreUnions l.setting.table.now l.setting.size l.setting.stock.now.operations.items o sets.items) l.asked l.rows.items
