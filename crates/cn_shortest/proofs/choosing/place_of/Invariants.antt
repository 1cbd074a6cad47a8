use Rattle.std.proofs.Common.{ℕ, ◌≡◌, ◌<◌, ◌+◌, length, Some, slice_get}
use Rattle.cn_shortest.specs.Choosing.{HasLoad}
use Rattle.cn_shortest.specs.Loads.{table_of}
use Rattle.cn_meetings.specs.Sights.{sight_of}
use Rattle.cn_shortest.specs.declared.sizes.Sizes.{Sizes}
use Rattle.cn_shortest.proofs.choosing.place_of.Given as goal

abbrev pub invariant-loop-place : goal.invariant-loop-place
invariant-loop-place l =
    (i : ℕ) (s : Sizes) → i < l.place → slice_get l.list i ≡ Some s → HasLoad (table_of l.rows) (length l.rows + 1) l.fn.budget (sight_of l.fn.sight) s (record { nodes = l.fn.load.nodes; sum = l.fn.load.sum }) → ⊥
