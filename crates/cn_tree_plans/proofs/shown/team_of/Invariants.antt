use Rattle.std.proofs.Common.{[], ℕ, ◌<◌, slice_index_or}
use Rattle.cn_outcomes.specs.PairSets.{Has}
use Rattle.cn_tree_plans.proofs.shown.team_of.Given as goal

-- none of the sets so far has the pair
abbrev pub invariant-loop-g : goal.invariant-loop-g
invariant-loop-g l = (j : ℕ) → j < l.g → ¬ Has (slice_index_or l.sets j []) l.response.0 l.saw
