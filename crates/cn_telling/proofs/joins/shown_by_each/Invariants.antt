use Rattle.std.proofs.Common.{◌≡◌, ◌<◌, ◌≤◌, ℕ, length}
use Rattle.cn_stocks.specs.Pairs.{Has, set_at}
use Rattle.cn_telling.specs.Asking.{AreShownTo}
use Rattle.cn_telling.proofs.joins.shown_by_each.Given as goal

-- the pairs by the operations so far; by the others there are none
abbrev pub invariant-loop-first : goal.invariant-loop-first
invariant-loop-first l = record {
  long : length l.pairs ≡ 8;
  done : (f : ℕ) → f < l.first → AreShownTo l.asking l.fn.start f (set_at l.pairs f);
  none : (f r q : ℕ) → l.first ≤ f → ¬ Has (set_at l.pairs f) r q;
}
