use Rattle.std.proofs.Common.{◌≡◌, ◌++◌, take, replicate, length}
use Rattle.cn_choice.specs.declared.team.Team.TheVariants.{A, B}
use Rattle.cn_choice.proofs.raw_choice.RawChoice.of.Given as goal

abbrev pub invariant-loop-operation : goal.invariant-loop-operation
invariant-loop-operation l = (l.operations.items ≡ take l.operation-index l.choice.a) × (l.marks.items ≡ replicate l.operation-index A)

abbrev pub invariant-loop-operation-2 : goal.invariant-loop-operation-2
invariant-loop-operation-2 l = (l.operations.items ≡ l.choice.a ++ take l.operation-index l.choice.b) × (l.marks.items ≡ replicate (length l.choice.a) A ++ replicate l.operation-index B)
