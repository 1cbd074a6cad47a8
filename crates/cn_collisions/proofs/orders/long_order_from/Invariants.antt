use Rattle.std.proofs.Common.{ℕ, ◌≡◌, ◌+◌, ◌<◌, []}
use Rattle.cn_collisions.specs.OutcomeOrders.{NoneOfLength}
use Rattle.cn_collisions.proofs.orders.long_order_from.Given as goal

-- no order of a length so far leads into the set, and the list is still empty
abbrev pub invariant-loop-left : goal.invariant-loop-left
invariant-loop-left l = record {
  none : (k : ℕ) → k < l.left + 1 → NoneOfLength l.asked.view.sets.now.table.now l.asked.view.raw.now l.fn.team l.asked.view.process l.target k;
  empty : l.order.items ≡ [];
}
