use Rattle.std.proofs.Common.{◌≡◌, ◌<◌, ℕ}
use Rattle.std.specs.Prelude.{slice_index}
use Rattle.cn_table.specs.TypeTable.{transition}
use Rattle.cn_views.proofs.looks.look_alike.Given as goal

-- each operation so far gets the same response in both states
abbrev pub invariant-loop-number : goal.invariant-loop-number
invariant-loop-number l = (i : ℕ) → i < l.number-index
    → (transition l.table (slice_index l.operations i) l.one.0).0 ≡ (transition l.table (slice_index l.operations i) l.other.0).0
