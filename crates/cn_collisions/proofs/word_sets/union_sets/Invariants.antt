use Rattle.cn_stocks.specs.Each.{EachAt}
use Rattle.cn_collisions.specs.Exact.{ArePairsUpTo}
use Rattle.cn_collisions.proofs.word_sets.union_sets.Given as goal

abbrev pub invariant-loop-start : goal.invariant-loop-start
invariant-loop-start l = EachAt (λ start set. ArePairsUpTo l.setting.table.now start l.setting.stock.now.operations.items l.fn.asked l.setting.size set) l.start l.sets.items
