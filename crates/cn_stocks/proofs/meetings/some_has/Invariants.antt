use Rattle.std.proofs.Common.{◌≡◌, ◌<◌, ◌↔◌, ℕ, length}
use Rattle.std.specs.Prelude.{IsBitSet}
use Rattle.cn_stocks.specs.Meetings.{HasAt}
use Rattle.cn_stocks.proofs.meetings.some_has.Given as goal

-- the states of the sets so far
abbrev pub invariant-loop-operation : goal.invariant-loop-operation
invariant-loop-operation l = record {
  long : length l.sets ≡ 8;
  all_is : (q : ℕ) → IsBitSet l.all q ↔ ((f : ℕ) × (f < l.operation) × HasAt l.sets f q);
}
