use Rattle.std.proofs.Common.{◌<◌, ◌⊎◌, ℕ, length}
use Rattle.cn_interference.specs.Interference.{TellsNothing}
use Rattle.cn_interference.proofs.telling.tells_of_some.Given as goal

-- of each operation so far and this one, one tells nothing of the other
abbrev pub invariant-loop-second : goal.invariant-loop-second
invariant-loop-second l =
    (g : ℕ) → g < l.second → (q : ℕ) → q < length l.table.states
    → TellsNothing l.table l.fn.first.0 g q ⊎ TellsNothing l.table g l.fn.first.0 q
