use Rattle.std.proofs.Common.{◌≡◌, ◌+◌, ◌<◌, [], ℕ}
use Rattle.cn_reasons.specs.Beginnings.{NoRest}
use Rattle.cn_reasons.proofs.first_order.first_order.Given as goal

-- no order of a length so far leaves the state, and the list is still empty
abbrev pub invariant-loop-more : goal.invariant-loop-more
invariant-loop-more l = record {
  none : (k : ℕ) → k < l.more + 1 → NoRest l.aim k [];
  empty : l.order.items ≡ [];
}
