use Rattle.std.proofs.Common.{◌≡◌, ◌<◌, ℕ, length}
use Rattle.std.specs.Prelude.{slice_get}
use Rattle.cn_telling.specs.Cells.{IsUnderway}
use Rattle.cn_telling.proofs.cells.Block.add_to.Given as goal

-- the stocks before the place have a next one
abbrev pub invariant-loop-place : goal.invariant-loop-place
invariant-loop-place l = record {
  underway : IsUnderway l.self l.place l.list.items;
  kept : (i : ℕ) → i < length l.fn.list.items → slice_get l.list.items i ≡ slice_get l.fn.list.items i;
}
