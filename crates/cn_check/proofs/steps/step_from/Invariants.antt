use Rattle.std.proofs.Common.{◌≡◌, ◌+◌, ◌≤◌, drop, All}
use Rattle.cn_check.proofs.steps.step_from.Given as goal

-- the list is as it was, and its numbers from the place on cannot grow
abbrev pub invariant-loop-place : goal.invariant-loop-place
invariant-loop-place l = record { same : l.list ≡ l.initial.list; greatest : All (λ x. l.limit ≤ x + 1) (drop l.place l.list) }
