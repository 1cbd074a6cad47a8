use Rattle.std.proofs.Common.{◌≡◌, ℕ, ◌<◌, ◌↔◌}
use Rattle.cn_table.specs.TypeTable.{transition}
use Rattle.cn_stock_check.specs.Sets.{IsIn}
use Rattle.cn_stock_check.proofs.seen.after.Given as goal

-- the states to which it leads from those so far
abbrev pub invariant-loop-state : goal.invariant-loop-state
invariant-loop-state l = (q : ℕ) → IsIn l.set q ↔ ((p : ℕ) × (p < l.state) × IsIn l.states p × ((transition l.table l.operation.0 p).1 ≡ q))
