use Rattle.std.proofs.Common.{◌≡◌, ℕ, ◌<◌, get_or, length, max, min}
use Rattle.cn_stocks.specs.Words.{times}
use Rattle.cn_stock_check.proofs.needs.need_of.Given as goal

-- the counts so far are the greater ones
abbrev pub invariant-loop-operation : goal.invariant-loop-operation
invariant-loop-operation l = record {
  long : length l.counts ≡ 8;
  each : (o : ℕ) → o < l.operation → get_or l.counts o 0 ≡ max (min (times o l.first) 255) (min (times o l.second) 255);
}
