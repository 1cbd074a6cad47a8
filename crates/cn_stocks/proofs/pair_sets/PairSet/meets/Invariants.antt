use Rattle.std.proofs.Common.{◌≡◌, ◌<◌, ◌↔◌, ℕ, length}
use Rattle.std.specs.Prelude.{IsBitSet}
use Rattle.cn_stocks.specs.Pairs.{Has}
use Rattle.cn_stocks.proofs.pair_sets.PairSet.meets.Given as goal

-- the states of the common pairs of the responses so far
abbrev pub invariant-loop-response : goal.invariant-loop-response
invariant-loop-response l = record {
  common_is : (q : ℕ) → IsBitSet l.common q ↔ ((r : ℕ) × (r < l.response) × Has l.self r q × Has l.other r q);
  long : length l.self.states ≡ 16;
}
