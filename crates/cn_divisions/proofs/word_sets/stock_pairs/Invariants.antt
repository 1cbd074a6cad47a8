use Rattle.cn_stocks.specs.Reach.{ArePairsTo}
use Rattle.cn_stocks.specs.Each.{EachAt}
use Rattle.cn_divisions.proofs.word_sets.stock_pairs.Given as goal

-- the rows of the operations so far
abbrev pub invariant-loop-asked : goal.invariant-loop-asked
invariant-loop-asked l = EachAt (λ o sets. ArePairsTo l.setting.table.now l.setting.stock.now.operations.items o sets.items) l.asked l.pairs.items
