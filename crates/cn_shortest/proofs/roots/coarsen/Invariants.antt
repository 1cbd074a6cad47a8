use Rattle.std.proofs.Common.{ℕ, ◌≡◌, ◌<◌, Some, slice_get}
use Rattle.cn_shortest.specs.Roots.{AreAll, HasAllMerged, IsExtended, StayFound}
use Rattle.cn_shortest.specs.declared.sizes.Sizes.{Sizes}
use Rattle.cn_shortest.proofs.roots.coarsen.Given as goal

abbrev pub invariant-loop-place : goal.invariant-loop-place
invariant-loop-place l = record {
  kept : IsExtended l.fn.list.items l.list.items;
  of_n : AreAll l.fn.n l.list.items;
  found : StayFound l.fn.n l.fn.list.items l.list.items;
  all : (i : ℕ) (s : Sizes) → i < l.place → slice_get l.fn.list.items i ≡ Some s → HasAllMerged l.fn.n s.counts l.list.items;
}
