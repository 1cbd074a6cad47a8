use Rattle.std.proofs.Common.{[], ℕ, ◌<◌, ◌≤◌, slice_index_or}
use Rattle.cn_outcomes.specs.PairSets.{HaveCommonPair}
use Rattle.cn_tree_plans.proofs.shown.meets_one.Given as goal

-- none of the sets so far
abbrev pub invariant-loop-h : goal.invariant-loop-h
invariant-loop-h l = (j : ℕ) → l.from ≤ j → j < l.h
    → ¬ HaveCommonPair l.set (slice_index_or l.sets j [])
