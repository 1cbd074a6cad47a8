use Rattle.std.proofs.Common.{◌≡◌, ◌<◌, ◌≤◌, ◌++◌, ℕ, List, length, replicate, Some}
use Rattle.std.specs.Prelude.{slice_get}
use Rattle.cn_stocks.specs.declared.stocks.Stock.{Stock}
use Rattle.cn_telling.specs.Cells.{AreCells, LinksFrom}
use Rattle.cn_telling.proofs.cells.add_operation.Given as goal

-- so many of the operation are added; from the first place on stand the stocks that have as many
abbrev pub invariant-loop-copy : goal.invariant-loop-copy
invariant-loop-copy l = record {
  cells_are : (whole : List ℕ) → AreCells whole l.fn.cells.items → AreCells (whole ++ replicate l._copy l.fn.operation) l.cells.items;
  inside : l.first < length l.cells.items;
  block : (i : ℕ) (s : Stock) → l.first ≤ i → slice_get l.cells.items i ≡ Some s → LinksFrom l.fn.operation l.first s.less;
}
