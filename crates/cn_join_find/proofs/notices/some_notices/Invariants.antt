use Rattle.std.proofs.Common.{◌<◌, ℕ, length}
use Rattle.cn_joins.specs.Evidence.{NoticesItself}
use Rattle.cn_join_find.proofs.notices.some_notices.Given as goal

-- no operation notices itself from the states so far
abbrev pub invariant-loop-start : goal.invariant-loop-start
invariant-loop-start l = (start : ℕ) → start < l.start → (o : ℕ) → o < length l.table.operations → ¬ NoticesItself l.table start o
