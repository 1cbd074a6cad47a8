use Rattle.std.proofs.Common.{◌≡◌, ◌<◌, ℕ}
use Rattle.cn_unread.specs.Collects.{LookAlike}
use Rattle.cn_unread_number.proofs.telling.is_seen.Given as goal

-- no other state so far looks alike
abbrev pub invariant-loop-q : goal.invariant-loop-q
invariant-loop-q l =
    (q : ℕ) → q < l.q → LookAlike l.table l.looks.operations.items l.fn.p.0 q → l.fn.p.0 ≡ q
