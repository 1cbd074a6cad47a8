use Rattle.std.proofs.Common.{◌≡◌, ◌<◌, ◌≤◌, ℕ, [], None}
use Rattle.cn_collisions.proofs.WayLemmas.{Dead}
use Rattle.cn_collisions.proofs.endings.way_of_two.Given as goal

-- no way of two processes that begins with one so far leads into the set
abbrev pub invariant-loop-process : goal.invariant-loop-process
invariant-loop-process l = record {
  dead : (p : ℕ) → l.fn.low ≤ p → p < l.process
      → Dead l.view.sets.now.table.now l.view.raw.now l.view.process l.target 2 l.fn.low l.fn.high l.start.used l.start.state.0 None p;
  empty : l.order.items ≡ [];
}
