use Rattle.std.proofs.Common.{◌≡◌, ◌<◌, ℕ}
use Rattle.cn_table.specs.TypeTable.{transition}
use Rattle.cn_copies.proofs.copies.are_copies.Given as goal

-- the two do the same in each state so far
abbrev pub invariant-loop-state : goal.invariant-loop-state
invariant-loop-state l = (q : ℕ) → q < l.state → transition l.table l.fn.one.0 q ≡ transition l.table l.fn.other.0 q
