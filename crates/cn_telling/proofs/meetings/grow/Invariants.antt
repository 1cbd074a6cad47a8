use Rattle.std.proofs.Common.{◌≡◌, ◌<◌, ℕ, length}
use Rattle.std.specs.Prelude.{IsBitSet}
use Rattle.cn_stocks.specs.Meetings.{AreGathered, HasAt}
use Rattle.cn_telling.proofs.meetings.grow.Given as goal

-- the sets so far that meet the first set are in it
abbrev pub invariant-loop-operation : goal.invariant-loop-operation
invariant-loop-operation l = record {
  long : length l.sets ≡ 8;
  kept : (q : ℕ) → IsBitSet l.fn.set q → IsBitSet l.grown q;
  done : (f q r : ℕ) → f < l.operation → HasAt l.sets f q → IsBitSet l.fn.set q → HasAt l.sets f r → IsBitSet l.grown r;
  gathered : (first : ℕ) → AreGathered l.sets first l.fn.set → AreGathered l.sets first l.grown;
}
