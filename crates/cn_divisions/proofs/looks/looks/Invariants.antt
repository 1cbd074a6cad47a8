use Rattle.std.proofs.Common.{◌≡◌, Some, slice_get}
use Rattle.cn_stocks.specs.Each.{EachAt}
use Rattle.cn_divisions.specs.Looks.{IsLook}
use Rattle.cn_divisions.proofs.looks.looks.Given as goal

-- those of the sights so far
abbrev pub invariant-loop-place : goal.invariant-loop-place
invariant-loop-place l = EachAt (λ i look. (slice_get l.sights i ≡ Some look.sight) × IsLook l.table look) l.place l.looks.items
