use Rattle.std.proofs.Common.{All, Contains, take}
use Rattle.cn_pairs.proofs.searched.is_within.Given as goal

-- those so far are in the larger set
abbrev pub invariant-loop-operation : goal.invariant-loop-operation
invariant-loop-operation l = All (Contains l.larger) (take l.operation-index l.set)
