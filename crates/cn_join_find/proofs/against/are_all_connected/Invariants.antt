use Rattle.std.proofs.Common.{◌≢◌, ◌<◌, ℕ, Some, true}
use Rattle.std.specs.Prelude.{slice_get}
use Rattle.cn_join_find.proofs.against.are_all_connected.Given as goal

-- none so far is marked
abbrev pub invariant-loop-mark : goal.invariant-loop-mark
invariant-loop-mark l = (i : ℕ) → i < l.mark-index → slice_get l.marks i ≢ Some true
