use Rattle.std.proofs.Common.{◌≡◌, Some, slice_get}
use Rattle.cn_divisions.specs.declared.search.SightDivisions.{SightDivisions}
use Rattle.cn_stocks.specs.Each.{EachAt}
use Rattle.cn_shortest.specs.Roots.{AreRootsBy}
use Rattle.cn_shortest.proofs.roots.find_roots.Given as goal

-- those by the sights so far
abbrev pub invariant-loop-place : goal.invariant-loop-place
invariant-loop-place l = EachAt (λ i r. (d : SightDivisions) → slice_get l.fn.divisions.by_sight.items i ≡ Some d → AreRootsBy l.fn.n d r) l.place l.by_sight.items
