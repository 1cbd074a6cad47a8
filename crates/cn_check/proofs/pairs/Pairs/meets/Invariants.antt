use Rattle.std.proofs.Common.{ℕ, ◌<◌}
use Rattle.cn_check.specs.WalkedRuns.{HasPair}
use Rattle.cn_check.proofs.pairs.Pairs.meets.Given as goal

-- the process has no common pair with a response so far
abbrev pub invariant-loop-response : goal.invariant-loop-response
invariant-loop-response l = (r : ℕ) → r < l.response → (q : ℕ) → HasPair l.self l.process r q → HasPair l.other l.process r q → ⊥
