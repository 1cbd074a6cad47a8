use Rattle.std.proofs.Common.{◌<◌, ℕ}
use Rattle.cn_unread_number.specs.Agreeing.{Agree}
use Rattle.cn_unread_number.proofs.telling.agrees_with_all.Given as goal

-- it agrees in each state so far
abbrev pub invariant-loop-q : goal.invariant-loop-q
invariant-loop-q l = (q : ℕ) → q < l.q → Agree l.table l.fn.operation.0 l.fn.p.0 q
