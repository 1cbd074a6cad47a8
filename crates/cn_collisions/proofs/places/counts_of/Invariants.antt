use Rattle.std.proofs.Common.{◌≡◌, ◌<◌, ◌≤◌, ℕ, length, slice_index, take}
use Rattle.cn_stocks.specs.Words.{times}
use Rattle.cn_collisions.proofs.places.counts_of.Given as goal

-- how often each operation stands among those so far
abbrev pub invariant-loop-operation : goal.invariant-loop-operation
invariant-loop-operation l = record {
  long : length l.counts ≡ 8;
  are : (o : ℕ) → o < 8 → slice_index l.counts o ≡ times o (take l.operation-index l.list);
  few : (o : ℕ) → o < 8 → slice_index l.counts o ≤ l.operation-index;
}
