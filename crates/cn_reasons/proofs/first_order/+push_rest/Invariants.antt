use Rattle.std.proofs.Common.{◌≡◌, ◌<◌, ℕ}
use Rattle.cn_reasons.proofs.RestLemmas.{Dead}
use Rattle.cn_reasons.proofs.first_order.+push_rest.Given as goal

abbrev pub decreases-push_rest : goal.decreases-push_rest
decreases-push_rest l = l.left

-- the order is as before, and goes on with no process so far
abbrev pub invariant-loop-process : goal.invariant-loop-process
invariant-loop-process l = record {
  same : l.order.items ≡ l.fn.order.items;
  dead : (p : ℕ) → p < l.process → Dead l.aim l.fn.left l.fn.order.items p;
}
