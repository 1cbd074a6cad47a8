use Rattle.std.proofs.Common.{◌≡◌, drop, None}
use Rattle.cn_choice.specs.Rising.{next_rising}
use Rattle.cn_choice.proofs.rising.advance_numbers.Given as goal

-- the list is as it was, and the part behind has no next list
abbrev pub invariant-loop-place : goal.invariant-loop-place
invariant-loop-place l = record { same : l.list ≡ l.fn.list; none : next_rising l.limit (drop l.place l.fn.list) ≡ None }
