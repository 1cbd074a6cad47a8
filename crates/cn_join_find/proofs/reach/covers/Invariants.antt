use Rattle.std.proofs.Common.{All, take}
use Rattle.std.specs.Prelude.{IsBitSet}
use Rattle.cn_join_find.proofs.reach.covers.Given as goal

-- the operations so far are in the set
abbrev pub invariant-loop-operation : goal.invariant-loop-operation
invariant-loop-operation l = All (λ o. IsBitSet l.fn.set o) (take l.operation-index l.stock)
