use Rattle.cn_stocks.specs.Reach.{ArePairs}
use Rattle.cn_stocks.specs.Each.{EachAt}
use Rattle.cn_divisions.proofs.word_sets.shown_to.Given as goal

abbrev pub invariant-loop-start : goal.invariant-loop-start
invariant-loop-start l = EachAt (λ start set. ArePairs l.setting.table.now start l.setting.stock.now.operations.items l.fn.asked set) l.start l.sets.items
