use Rattle.std.proofs.Common.{◌≡◌, ◌-◌, ◌++◌, replicate, take, drop}
use Rattle.cn_check.proofs.steps.raise_from.Given as goal

-- so many numbers from the place on are raised
abbrev pub invariant-loop-later : goal.invariant-loop-later
invariant-loop-later l = l.list ≡ take l.place l.fn.list ++ (replicate (l.later - l.place) l.value ++ drop (l.later - l.place) (drop l.place l.fn.list))
