use Rattle.std.proofs.Common.{take}
use Rattle.cn_join_find.proofs.WitnessLemmas.{AreDivided}
use Rattle.cn_join_find.proofs.split.split_by.Given as goal

-- the operations so far are divided
abbrev pub invariant-loop-operation : goal.invariant-loop-operation
invariant-loop-operation l = AreDivided l.fn.set (take l.operation-index l.stock) l.a.items l.b.items
