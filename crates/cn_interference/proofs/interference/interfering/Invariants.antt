use Rattle.std.proofs.Common.{◌<◌, ℕ, length}
use Rattle.cn_interference.specs.Interference.{Interfere}
use Rattle.cn_interference.proofs.interference.interfering.Given as goal

-- each operation so far interferes with all
abbrev pub invariant-loop-first : goal.invariant-loop-first
invariant-loop-first l =
    (f : ℕ) → f < l.first → (g : ℕ) → g < length l.table.operations
    → (q : ℕ) → q < length l.table.states → Interfere l.table f g q
