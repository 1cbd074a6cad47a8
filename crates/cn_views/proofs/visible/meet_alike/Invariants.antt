use Rattle.std.proofs.Common.{◌<◌, ℕ}
use Rattle.cn_views.specs.VisibleChoices.{MeetAt}
use Rattle.cn_views.proofs.visible.meet_alike.Given as goal

-- none so far
abbrev pub invariant-loop-state : goal.invariant-loop-state
invariant-loop-state l = (p : ℕ) → p < l.state → MeetAt l.table l.looks.operations.items l.from_a l.from_b p → ⊥
