use Rattle.std.proofs.Common.{◌<◌, ℕ}
use Rattle.cn_outcomes.specs.PairSets.{Has}
use Rattle.cn_unread.specs.Collects.{LookAlike}
use Rattle.cn_views.proofs.visible.is_also_in.Given as goal

-- none so far
abbrev pub invariant-loop-other : goal.invariant-loop-other
invariant-loop-other l = (q : ℕ) → q < l.other → (Has l.set l.response.0 q × LookAlike l.table l.looks.operations.items l.state.0 q) → ⊥
