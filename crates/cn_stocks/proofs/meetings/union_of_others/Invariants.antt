use Rattle.std.proofs.Common.{◌≡◌, ◌≢◌, ◌<◌, ◌↔◌, ℕ, length}
use Rattle.std.specs.Prelude.{IsBitSet}
use Rattle.cn_stocks.specs.Meetings.{HasAt}
use Rattle.cn_stocks.proofs.meetings.union_of_others.Given as goal

-- the states of the other sets so far
abbrev pub invariant-loop-other : goal.invariant-loop-other
invariant-loop-other l = record {
  long : length l.sets ≡ 8;
  others_is : (q : ℕ) → IsBitSet l.others q ↔ ((g : ℕ) × (g < l.other) × (g ≢ l.fn.operation) × HasAt l.sets g q);
}
