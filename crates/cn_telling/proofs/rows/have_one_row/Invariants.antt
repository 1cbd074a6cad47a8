use Rattle.std.proofs.Common.{◌≡◌, ◌<◌, ℕ}
use Rattle.cn_table.specs.TypeTable.{transition}
use Rattle.cn_telling.proofs.rows.have_one_row.Given as goal

-- the two lead to the same state from each state so far
abbrev pub invariant-loop-state : goal.invariant-loop-state
invariant-loop-state l = (q : ℕ) → q < l.state → (transition l.table l.fn.one.0 q).1 ≡ (transition l.table l.fn.other.0 q).1
