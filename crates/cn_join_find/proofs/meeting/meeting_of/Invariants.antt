use Rattle.std.proofs.Common.{◌<◌, ℕ}
use Rattle.std.specs.Prelude.{IsBitSet}
use Rattle.cn_stocks.specs.Pairs.{set_at}
use Rattle.cn_join_find.specs.Crossing.{NoCommonPair}
use Rattle.cn_join_find.proofs.meeting.meeting_of.Given as goal

-- the first operation has no pair in common with those so far that are not in the set
abbrev pub invariant-loop-second : goal.invariant-loop-second
invariant-loop-second l = (g : ℕ) → g < l.second → ¬ IsBitSet l.fn.set g → NoCommonPair l.table (set_at l.pairs l.fn.first) (set_at l.pairs g)
