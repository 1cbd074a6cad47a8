use Rattle.std.proofs.Common.{◌<◌, ◌≤◌, ℕ}
use Rattle.cn_pairs.specs.Smallest.{NoneHas}
use Rattle.cn_pairs.proofs.smallest.sets_of_fewer.Given as goal

-- no set of the sizes so far has the number
abbrev pub invariant-loop-size : goal.invariant-loop-size
invariant-loop-size g l = (size : ℕ) → 1 ≤ size → size < l.size → NoneHas l.table size l.number
