use Rattle.std.proofs.Common.{◌<◌, ℕ}
use Rattle.cn_interference.specs.Interference.{Interfere}
use Rattle.cn_interference.proofs.interference.are_apart.Given as goal

-- they interfere in each state so far
abbrev pub invariant-loop-state : goal.invariant-loop-state
invariant-loop-state l = (q : ℕ) → q < l.state → Interfere l.table l.fn.first.0 l.fn.second.0 q
