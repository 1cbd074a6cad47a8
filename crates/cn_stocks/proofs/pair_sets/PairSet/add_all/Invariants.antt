use Rattle.std.proofs.Common.{◌≡◌, ◌<◌, ◌≤◌, ◌⊎◌, ◌↔◌, ℕ, get_or, length}
use Rattle.cn_stocks.specs.Pairs.{Has}
use Rattle.cn_stocks.proofs.pair_sets.PairSet.add_all.Given as goal

-- the responses so far have the pairs of both sets, the others are as before
abbrev pub invariant-loop-response : goal.invariant-loop-response
invariant-loop-response l = record {
  long : length l.self.states ≡ 16;
  done : (r : ℕ) → r < l.response → (q : ℕ) → Has l.self r q ↔ (Has l.fn.self r q ⊎ Has l.other r q);
  left : (r : ℕ) → l.response ≤ r → get_or l.self.states r 0 ≡ get_or l.fn.self.states r 0;
}
