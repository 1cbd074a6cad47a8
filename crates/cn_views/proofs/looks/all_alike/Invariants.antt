use Rattle.std.proofs.Common.{◌≡◌, ◌<◌, ℕ, length}
use Rattle.std.specs.Prelude.{slice_index}
use Rattle.cn_unread.specs.Collects.{LookAlike}
use Rattle.cn_views.proofs.SetLoops.{HasBelow}
use Rattle.cn_views.proofs.looks.all_alike.Given as goal

-- the sets of the states so far
abbrev pub invariant-loop-state : goal.invariant-loop-state
invariant-loop-state l = record {
  same : (p : ℕ) → p < l.state → HasBelow (LookAlike l.table l.operations p) (length l.table.states) (slice_index l.sets p);
  long : length l.sets ≡ 16;
}
