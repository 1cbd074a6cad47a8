use Rattle.std.proofs.Common.{[], ℕ, ◌<◌, length, slice_index_or}
use Rattle.cn_outcomes.specs.PairSets.{HaveCommonPair}
use Rattle.cn_tree_plans.proofs.shown.some_meet.Given as goal

-- none of the sets so far meets one behind it
abbrev pub invariant-loop-g : goal.invariant-loop-g
invariant-loop-g l = (i j : ℕ) → i < l.g → i < j → j < length l.sets
    → ¬ HaveCommonPair (slice_index_or l.sets i []) (slice_index_or l.sets j [])
