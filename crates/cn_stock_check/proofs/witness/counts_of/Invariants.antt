use Rattle.std.proofs.Common.{◌≡◌, ◌+◌, ℕ, ◌<◌, get_or, length}
use Rattle.cn_stocks.specs.Words.{times}
use Rattle.cn_stock_check.proofs.witness.counts_of.Given as goal

-- the counts so far are those of both teams
abbrev pub invariant-loop-operation : goal.invariant-loop-operation
invariant-loop-operation l = record {
  long : length l.counts ≡ 8;
  each : (o : ℕ) → o < l.operation → get_or l.counts o 0 ≡ times o l.a + times o l.b;
}
