use Rattle.std.proofs.Common.{◌<◌, ℕ, length}
use Rattle.cn_interference.specs.Interference.{Interfere}
use Rattle.cn_interference.proofs.interference.is_apart.Given as goal

-- it interferes with each operation so far
abbrev pub invariant-loop-second : goal.invariant-loop-second
invariant-loop-second l =
    (g : ℕ) → g < l.second → (q : ℕ) → q < length l.table.states
    → Interfere l.table l.fn.first.0 g q
