use Rattle.std.proofs.Common.{◌≡◌, length}
use Rattle.cn_telling.specs.Asking.{AreShownOf}
use Rattle.cn_telling.proofs.shown.cell_shown.Given as goal

-- the pairs of the stocks so far
abbrev pub invariant-loop-stock : goal.invariant-loop-stock
invariant-loop-stock l = record {
  long : length l.all.items ≡ l.stock-index;
  shown : AreShownOf l.table l.fn.asked l.cells l.all.items;
}
