use Rattle.cn_stocks.specs.Each.{EachAt}
use Rattle.cn_collisions.specs.Exact.{ArePairsAfter}
use Rattle.cn_collisions.proofs.word_sets.shown_sets.Given as goal

abbrev pub invariant-loop-start : goal.invariant-loop-start
invariant-loop-start l = EachAt (λ start set. ArePairsAfter l.setting.table.now start l.setting.stock.now.operations.items l.fn.asked l.fn.count set) l.start l.sets.items
