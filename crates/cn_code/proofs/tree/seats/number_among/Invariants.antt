use Rattle.std.proofs.Common.{◌≡◌, ℕ, ◌<◌, false, get_or}
use Rattle.cn_code.specs.TreeJudgements.{judge_alike}
use Rattle.cn_code.specs.Trees.{no_seat}
use Rattle.cn_code.proofs.tree.seats.number_among.Given as goal

-- none of these so far judges alike
abbrev pub invariant-loop-number : goal.invariant-loop-number
invariant-loop-number l = (k : ℕ) → k < l.number → judge_alike l.plan l.seat (get_or l.judges k no_seat) ≡ false
