use Rattle.std.proofs.Common.{◌<◌, ℕ, length}
use Rattle.std.specs.Prelude.{IsBitSet}
use Rattle.cn_stocks.specs.Pairs.{set_at}
use Rattle.cn_join_find.specs.Crossing.{NoCommonPair}
use Rattle.cn_join_find.proofs.meeting.find_meeting.Given as goal

-- no operation of the set so far has a pair in common with another one
abbrev pub invariant-loop-first : goal.invariant-loop-first
invariant-loop-first l = (f g : ℕ) → f < l.first → g < length l.table.operations → IsBitSet l.fn.set f → ¬ IsBitSet l.fn.set g
    → NoCommonPair l.table (set_at l.pairs f) (set_at l.pairs g)
