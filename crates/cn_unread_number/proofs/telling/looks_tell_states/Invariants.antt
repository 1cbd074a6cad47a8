use Rattle.std.proofs.Common.{◌<◌, ℕ}
use Rattle.cn_unread_number.specs.Agreeing.{IsSeen}
use Rattle.cn_unread_number.proofs.telling.looks_tell_states.Given as goal

-- each state so far is seen
abbrev pub invariant-loop-p : goal.invariant-loop-p
invariant-loop-p l = (p : ℕ) → p < l.p → IsSeen l.table l.looks.operations.items p
