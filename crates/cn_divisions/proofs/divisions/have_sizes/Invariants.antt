use Rattle.std.proofs.Common.{ℕ, ◌≡◌, ◌<◌, slice_get, Some}
use Rattle.cn_divisions.specs.declared.divisions.Division.{Division}
use Rattle.cn_divisions.proofs.divisions.have_sizes.Given as goal

abbrev pub invariant-loop-division : goal.invariant-loop-division
invariant-loop-division l = (i : ℕ) (d : Division) → i < l.division-index → slice_get l.divisions i ≡ Some d → d.sizes.items ≡ l.sizes → ⊥
