use Rattle.std.proofs.Common.{◌≡◌, drop}
use Rattle.cn_table.specs.Reach.{is_in_place}
use Rattle.cn_table.proofs.reach.is_in_place.Given as goal

-- the rest gives the answer
abbrev pub invariant-loop-i : goal.invariant-loop-i
invariant-loop-i l = is_in_place l.i (drop l.i l.numbers) ≡ is_in_place 0 l.numbers
