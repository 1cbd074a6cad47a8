use Rattle.std.proofs.Common.{◌≡◌, replicate}
use Rattle.cn_merging.proofs.firsts.one_class.Given as goal

abbrev pub invariant-loop : goal.invariant-loop
invariant-loop l = l.firsts.items ≡ replicate l.counter 0
