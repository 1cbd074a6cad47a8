use Rattle.std.proofs.Common.{◌≡◌, ◌<◌, ◌↔◌, ℕ, length}
use Rattle.std.specs.Prelude.{IsBitSet, slice_index}
use Rattle.cn_reasons.specs.Onward.{EndsIn}
use Rattle.cn_reasons.proofs.onward.no_operation.Given as goal

-- the start states so far have their sets
abbrev pub invariant-loop-start : goal.invariant-loop-start
invariant-loop-start l = record {
  long : length l.row ≡ 16;
  ends : (start : ℕ) → start < l.start → (q : ℕ) → IsBitSet (slice_index l.row start) q ↔ EndsIn l.table start 0 q;
}
