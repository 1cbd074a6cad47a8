use Rattle.cn_interference.specs.Pairs.{ArePairsBelow}
use Rattle.cn_interference.proofs.pairs.pairs_apart.Given as goal

-- the pairs so far
abbrev pub invariant-loop-first : goal.invariant-loop-first
invariant-loop-first l = ArePairsBelow l.table l.first 0 l.pairs.items
