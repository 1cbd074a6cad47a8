use Rattle.std.proofs.Common.{ℕ, ◌<◌}
use Rattle.cn_joins.specs.Evidence.{NoticesItself}
use Rattle.cn_stock_check.proofs.evidence.notices_somewhere.Given as goal

-- it does not notice itself from the states so far
abbrev pub invariant-loop-start : goal.invariant-loop-start
invariant-loop-start l = (start : ℕ) → start < l.start → ¬ NoticesItself l.table start l.operation.0
