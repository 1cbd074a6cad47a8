use Rattle.std.proofs.Common.{◌≡◌, ◌<◌, ℕ}
use Rattle.cn_interference.specs.Interference.{answer}
use Rattle.cn_interference.proofs.answers.answers_nothing.Given as goal

-- the response in each state so far is the first one
abbrev pub invariant-loop-state : goal.invariant-loop-state
invariant-loop-state l = (q : ℕ) → q < l.state → answer l.table l.fn.operation.0 q ≡ l.first.0
