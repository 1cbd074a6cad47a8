use Rattle.std.proofs.Common.{ℕ}
use Rattle.cn_join_find.specs.Reached.{AreReached, HasAllOf}
use Rattle.cn_join_find.proofs.reach.grown.Given as goal

-- the set only grows, and stays one that joins connect
abbrev pub invariant-loop-join : goal.invariant-loop-join
invariant-loop-join l = record {
  larger : HasAllOf l.grown l.fn.set;
  reached : (first : ℕ) → AreReached l.joins l.fn.start l.stock first l.fn.set → AreReached l.joins l.fn.start l.stock first l.grown;
}
