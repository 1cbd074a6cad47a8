use Rattle.std.proofs.Common.{ℕ, ◌<◌, IsBitSet}
use Rattle.cn_reasons.proofs.search.least_common.Given as goal

-- no number so far is in both sets
abbrev pub invariant-loop-q : goal.invariant-loop-q
invariant-loop-q l = (k : ℕ) → k < l.q → IsBitSet l.from_a k → ¬ IsBitSet l.from_b k
