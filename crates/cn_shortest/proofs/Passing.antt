-- One merge more.
use Rattle.std.proofs.Common.{ℕ, suc, ◌≡◌, ◌+◌, inl, inr, List, arith, subst, Some, slice_get}
use Rattle.cn_divisions.specs.declared.divisions.Division.{Division}
use Rattle.cn_shortest.specs.Roots.{HasAllMerged, HasAllWithin, IsExtended}
use Rattle.cn_shortest.specs.declared.sizes.Sizes.{Sizes}
use Rattle.cn_shortest.proofs.Merging.{has_extended, merged_same}

pub within_more : (n r : ℕ) (divisions : List Division) (old new : List Sizes) → IsExtended old new → ((i : ℕ) (s : Sizes) → slice_get old i ≡ Some s → HasAllMerged n s.counts new) → HasAllWithin n r divisions old → HasAllWithin n (r + 1) divisions new
within_more n r divisions old new kept merged all =
    let next : suc r ≡ r + 1 = omega arith in
    subst (λ q. HasAllWithin n q divisions new) next (λ i d from to at are within. elim within [
      | inl w ↦ has_extended old new to kept (all i d from to at are w)
      | inr w ↦ (let h = all i d from w.0 at are w.3 in merged_same n h.1.counts w.0 new w.1 w.2 h.3 (merged h.0 h.1 h.2 w.1 w.2) to w.4 w.5 w.6 w.7 w.8)
    ])
