use Rattle.std.proofs.Common.{ℕ, ◌<◌, ◌≤◌, get_or}
use Rattle.cn_stock_check.proofs.needs.has_need.Given as goal

-- there is enough of each operation so far
abbrev pub invariant-loop-operation : goal.invariant-loop-operation
invariant-loop-operation l = (o : ℕ) → o < l.operation → get_or l.need.counts o 0 ≤ get_or l.counts o 0
