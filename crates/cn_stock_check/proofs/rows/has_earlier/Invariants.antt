use Rattle.std.proofs.Common.{◌<◌, ◌≤◌, ℕ}
use Rattle.std.specs.Prelude.{slice_index}
use Rattle.cn_telling.specs.Rows.{HaveOneRow}
use Rattle.cn_stock_check.proofs.rows.has_earlier.Given as goal

-- no counted operation so far has the row
abbrev pub invariant-loop-earlier : goal.invariant-loop-earlier
invariant-loop-earlier l = (a : ℕ) → a < l.earlier → 1 ≤ slice_index l.counts a → ¬ HaveOneRow l.table a l.operation.0
