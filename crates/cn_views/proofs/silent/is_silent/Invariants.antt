use Rattle.std.proofs.Common.{◌≡◌, ◌<◌, ℕ}
use Rattle.cn_table.specs.TypeTable.{transition}
use Rattle.cn_views.proofs.silent.is_silent.Given as goal

-- each state so far stays as it is
abbrev pub invariant-loop-state : goal.invariant-loop-state
invariant-loop-state l = (q : ℕ) → q < l.state → (transition l.table l.operation.0 q).1 ≡ q
