use Rattle.std.proofs.Common.{◌≡◌, ◌-◌, drop, None}
use Rattle.cn_choice.specs.Ranks.{next_ranks}
use Rattle.cn_choice.proofs.ranks.raise_ranks.Given as goal

-- the list is as it was, and the part behind has no next list
abbrev pub invariant-loop-place : goal.invariant-loop-place
invariant-loop-place l = record { same : l.ranks ≡ l.fn.ranks; none : next_ranks (l.n - l.place) (drop l.place l.fn.ranks) ≡ None }
