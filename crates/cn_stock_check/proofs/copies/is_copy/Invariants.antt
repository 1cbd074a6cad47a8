use Rattle.std.proofs.Common.{ℕ, ◌<◌}
use Rattle.cn_joins.specs.Evidence.{HaveSameRows}
use Rattle.cn_stock_check.proofs.copies.is_copy.Given as goal

-- none so far has the same row
abbrev pub invariant-loop-earlier : goal.invariant-loop-earlier
invariant-loop-earlier l = (p : ℕ) → p < l.earlier → ¬ HaveSameRows l.table p l.operation.0
