use Rattle.std.proofs.Common.{◌<◌, ℕ}
use Rattle.cn_unread_number.specs.Agreeing.{AgreesWithAll}
use Rattle.cn_unread_number.proofs.telling.tells_states.Given as goal

-- it agrees with all in each state so far
abbrev pub invariant-loop-p : goal.invariant-loop-p
invariant-loop-p l = (p : ℕ) → p < l.p → AgreesWithAll l.table l.fn.operation.0 p
