use Rattle.std.proofs.Common.{◌≡◌, ◌<◌, ◌↔◌, ℕ, length}
use Rattle.std.specs.Prelude.{IsBitSet}
use Rattle.cn_stocks.specs.Pairs.{set_at}
use Rattle.cn_telling.specs.Joined.{HaveCommonPair}
use Rattle.cn_telling.proofs.joins.meeting.Given as goal

abbrev pub invariant-loop-other : goal.invariant-loop-other
invariant-loop-other l = record {
  long : length l.pairs ≡ 8;
  found : (g : ℕ) → IsBitSet l.found g ↔ ((g < l.other) × HaveCommonPair l.set (set_at l.pairs g));
}
