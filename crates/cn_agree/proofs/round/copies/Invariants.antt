use Rattle.std.proofs.Common.{◌≡◌, replicate}
use Rattle.std.specs.Vec.{vec_capacity}
use Rattle.cn_agree.proofs.round.copies.Given as goal

abbrev pub invariant-loop-i : goal.invariant-loop-i
invariant-loop-i g l = record {
  items : l.values.items ≡ replicate l._i l.value;
  room : vec_capacity l.values ≡ l.count;
}
