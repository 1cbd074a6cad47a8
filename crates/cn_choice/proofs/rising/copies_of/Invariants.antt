use Rattle.std.proofs.Common.{◌≡◌, replicate}
use Rattle.cn_choice.proofs.rising.copies_of.Given as goal

abbrev pub invariant-loop-k : goal.invariant-loop-k
invariant-loop-k l = l.list.items ≡ replicate l._k l.value
