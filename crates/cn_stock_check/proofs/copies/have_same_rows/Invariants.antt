use Rattle.std.proofs.Common.{◌≡◌, ℕ, ◌<◌}
use Rattle.cn_table.specs.TypeTable.{transition}
use Rattle.cn_stock_check.proofs.copies.have_same_rows.Given as goal

-- they do the same in the states so far
abbrev pub invariant-loop-state : goal.invariant-loop-state
invariant-loop-state l = (q : ℕ) → q < l.state → transition l.table l.one.0 q ≡ transition l.table l.other.0 q
