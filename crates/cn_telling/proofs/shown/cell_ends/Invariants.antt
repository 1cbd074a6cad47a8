use Rattle.std.proofs.Common.{◌≡◌, length}
use Rattle.cn_telling.specs.Settings.{AreEndsOf}
use Rattle.cn_telling.proofs.shown.cell_ends.Given as goal

-- the ends of the stocks so far
abbrev pub invariant-loop-stock : goal.invariant-loop-stock
invariant-loop-stock l = record {
  long : length l.all.items ≡ l.stock-index;
  ends : AreEndsOf l.table l.cells l.all.items;
}
