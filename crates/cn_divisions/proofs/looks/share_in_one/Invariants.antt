use Rattle.std.proofs.Common.{ℕ, ◌≡◌, ◌<◌, Some, slice_get}
use Rattle.cn_divisions.specs.Looks.{ShareResponse}
use Rattle.cn_divisions.proofs.looks.share_in_one.Given as goal

-- none of the sets so far is shared
abbrev pub invariant-loop-place : goal.invariant-loop-place
invariant-loop-place l = (i set : ℕ) → i < l.place → slice_get l.alike i ≡ Some set → ShareResponse l.a l.b set → ⊥
