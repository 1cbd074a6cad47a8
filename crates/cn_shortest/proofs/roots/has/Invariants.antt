use Rattle.std.proofs.Common.{ℕ, ◌≡◌, ◌<◌, Some, slice_get}
use Rattle.cn_shortest.specs.declared.sizes.Sizes.{Sizes}
use Rattle.cn_shortest.proofs.roots.has.Given as goal

-- none of the first ones has these counts
abbrev pub invariant-loop-place : goal.invariant-loop-place
invariant-loop-place l = (i : ℕ) (s : Sizes) → i < l.place → slice_get l.list i ≡ Some s → s.counts ≡ l.sizes.counts → ⊥
