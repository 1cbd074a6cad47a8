use Rattle.std.proofs.Common.{◌≡◌}
use Rattle.cn_choice.proofs.ListLemmas.NextLists.{raised}
use Rattle.cn_choice.proofs.rising.raise_from.Given as goal

-- the numbers behind the place are written so far
abbrev pub invariant-loop-later : goal.invariant-loop-later
invariant-loop-later l = l.list ≡ raised l.fn.list l.place l.later l.value l.behind
