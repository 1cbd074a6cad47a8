use Rattle.std.proofs.Common.{◌<◌, ℕ}
use Rattle.cn_joins.specs.Evidence.{NoticesItself}
use Rattle.cn_join_find.proofs.notices.some_notices_from.Given as goal

-- no operation so far notices itself
abbrev pub invariant-loop-operation : goal.invariant-loop-operation
invariant-loop-operation l = (o : ℕ) → o < l.operation → ¬ NoticesItself l.table l.fn.start.0 o
