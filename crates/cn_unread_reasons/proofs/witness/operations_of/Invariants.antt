use Rattle.std.proofs.Common.{◌≡◌, take}
use Rattle.cn_unread_reasons.specs.UnreadWitnesses.{numbers_of}
use Rattle.cn_unread_reasons.proofs.witness.operations_of.Given as goal

abbrev pub invariant-loop-number : goal.invariant-loop-number
invariant-loop-number l = numbers_of l.operations.items ≡ take l.number-index l.numbers
