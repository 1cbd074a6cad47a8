use Rattle.std.proofs.Common.{◌-◌, ◌<◌, ℕ}
use Rattle.std.specs.Prelude.{IsBitSet}
use Rattle.cn_stocks.specs.Meetings.{AreGathered, HasAt}
use Rattle.cn_telling.proofs.meetings.component.Given as goal

-- the set is gathered from that of the first operation, and the grown one has each set that meets it
abbrev pub invariant-loop-grown : goal.invariant-loop-grown
invariant-loop-grown l = record {
  first : (q : ℕ) → HasAt l.sets l.fn.first q → IsBitSet l.set q;
  kept : (q : ℕ) → IsBitSet l.set q → IsBitSet l.grown q;
  done : (f q r : ℕ) → HasAt l.sets f q → IsBitSet l.set q → HasAt l.sets f r → IsBitSet l.grown r;
  gathered : AreGathered l.sets l.fn.first l.set;
  more : AreGathered l.sets l.fn.first l.grown;
  small : l.grown < 65536;
}

abbrev pub decreases-loop-grown : goal.decreases-loop-grown
decreases-loop-grown l = 65536 - l.set
