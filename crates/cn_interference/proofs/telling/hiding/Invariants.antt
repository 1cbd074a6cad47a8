use Rattle.std.proofs.Common.{◌<◌, ◌⊎◌, ℕ, length}
use Rattle.cn_interference.specs.Interference.{TellsNothing}
use Rattle.cn_interference.proofs.telling.hiding.Given as goal

-- of each operation so far and any other, one tells nothing of the other
abbrev pub invariant-loop-first : goal.invariant-loop-first
invariant-loop-first l =
    (f : ℕ) → f < l.first → (g : ℕ) → g < length l.table.operations
    → (q : ℕ) → q < length l.table.states → TellsNothing l.table f g q ⊎ TellsNothing l.table g f q
