use Rattle.std.proofs.Common.{◌≡◌, ◌<◌, ℕ, length}
use Rattle.cn_stocks.specs.Pairs.{set_at}
use Rattle.cn_stocks.specs.Reach.{ArePairs}
use Rattle.cn_telling.proofs.shown.stock_shown.Given as goal

abbrev pub invariant-loop-start : goal.invariant-loop-start
invariant-loop-start l = record {
  long : length l.pairs ≡ 16;
  shown : (start : ℕ) → start < l.start → ArePairs l.asking.setting.table.now start l.asking.setting.stock.now.operations.items l.asking.asked (set_at l.pairs start);
}
