use Rattle.std.proofs.Common.{◌≡◌, ◌≢◌, ℕ, Some, false, length}
use Rattle.std.specs.Prelude.{slice_get}
use Rattle.cn_join_find.proofs.against.all_marked.Given as goal

abbrev pub invariant-loop-place : goal.invariant-loop-place
invariant-loop-place l = record {
  count : length l.marks.items ≡ l._place;
  none : (i : ℕ) → slice_get l.marks.items i ≢ Some false;
}
