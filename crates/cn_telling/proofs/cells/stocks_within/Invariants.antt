use Rattle.std.proofs.Common.{◌≡◌, ◌<◌, ◌≤◌, ℕ, List}
use Rattle.cn_stocks.specs.Words.{times}
use Rattle.cn_telling.specs.Cells.{AreCells}
use Rattle.cn_telling.proofs.cells.stocks_within.Given as goal

-- the stocks within the operations so far
abbrev pub invariant-loop-operation : goal.invariant-loop-operation
invariant-loop-operation l = record {
  whole : List ℕ;
  cells_are : AreCells whole l.cells.items;
  done : (o : ℕ) → o < l.operation → times o whole ≡ times o l.stock;
  none : (o : ℕ) → l.operation ≤ o → times o whole ≡ 0;
}
