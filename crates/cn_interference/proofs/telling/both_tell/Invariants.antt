use Rattle.std.proofs.Common.{◌<◌, ◌⊎◌, ℕ}
use Rattle.cn_interference.specs.Interference.{TellsNothing}
use Rattle.cn_interference.proofs.telling.both_tell.Given as goal

-- in each state so far one tells nothing of the other
abbrev pub invariant-loop-state : goal.invariant-loop-state
invariant-loop-state l =
    (q : ℕ) → q < l.state
    → TellsNothing l.table l.fn.first.0 l.fn.second.0 q ⊎ TellsNothing l.table l.fn.second.0 l.fn.first.0 q
