use Rattle.std.proofs.Common.{◌≡◌, length}
use Rattle.cn_stocks.specs.Reach.{AreEnds}
use Rattle.cn_telling.proofs.ends.stock_ends.Given as goal

abbrev pub invariant-loop-start : goal.invariant-loop-start
invariant-loop-start l = record {
  long : length l.states ≡ 16;
  ends : AreEnds l.setting.table.now l.setting.stock.now.operations.items l.start l.states;
}
