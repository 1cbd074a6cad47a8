use Rattle.std.proofs.Common.{ℕ, ◌≡◌, ◌<◌, length, take}
use Rattle.std.specs.Prelude.{slice_index}
use Rattle.cn_stocks.specs.Words.{times}
use Rattle.cn_shortest.proofs.sizes.count.Given as goal

abbrev pub invariant-loop-size : goal.invariant-loop-size
invariant-loop-size l = record {
  long : length l.counts ≡ 9;
  each : (x : ℕ) → x < 9 → slice_index l.counts x ≡ times x (take l.size-index l.list);
}
