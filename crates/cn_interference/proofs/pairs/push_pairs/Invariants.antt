use Rattle.cn_interference.specs.Pairs.{ArePairsBelow}
use Rattle.cn_interference.proofs.pairs.push_pairs.Given as goal

-- the pairs so far
abbrev pub invariant-loop-second : goal.invariant-loop-second
invariant-loop-second l = ArePairsBelow l.table l.fn.first.0 l.second l.pairs.items
