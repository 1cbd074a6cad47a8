use Rattle.std.proofs.Common.{◌≡◌, take}
use Rattle.cn_io.specs.Arguments.Operations.{operations_in}
use Rattle.cn_io.proofs.arguments.operations.operations_in.Given as goal

-- the numbers so far
abbrev pub invariant-loop-word : goal.invariant-loop-word
invariant-loop-word l = l.numbers.items ≡ operations_in l.object (take l.word-index l.words)
