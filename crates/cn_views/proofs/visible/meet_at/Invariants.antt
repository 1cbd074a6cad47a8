use Rattle.std.proofs.Common.{◌<◌, ℕ}
use Rattle.cn_outcomes.specs.PairSets.{Has}
use Rattle.cn_views.specs.VisibleChoices.{IsAlsoIn}
use Rattle.cn_views.proofs.visible.meet_at.Given as goal

-- none so far
abbrev pub invariant-loop-response : goal.invariant-loop-response
invariant-loop-response l = (r : ℕ) → r < l.response → (Has l.from_a r l.state.0 × IsAlsoIn l.table l.looks.operations.items l.from_b r l.state.0) → ⊥
