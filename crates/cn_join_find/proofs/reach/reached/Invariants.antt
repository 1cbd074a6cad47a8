use Rattle.std.proofs.Common.{ℕ, ◌-◌, ◌<◌}
use Rattle.cn_join_find.specs.Reached.{AreReached, HasAllOf}
use Rattle.cn_join_find.proofs.reach.reached.Given as goal

-- the sets only grow, and stay those that joins connect
abbrev pub invariant-loop-next : goal.invariant-loop-next
invariant-loop-next l = record {
  larger : HasAllOf l.set l.fn.from;
  next_larger : HasAllOf l.next l.set;
  reached : (first : ℕ) → AreReached l.joins l.fn.start l.stock first l.fn.from → AreReached l.joins l.fn.start l.stock first l.set;
  fits : l.next < 65536;
  next_reached : (first : ℕ) → AreReached l.joins l.fn.start l.stock first l.set → AreReached l.joins l.fn.start l.stock first l.next;
}

abbrev pub decreases-loop-next : goal.decreases-loop-next
decreases-loop-next l = 65536 - l.set
