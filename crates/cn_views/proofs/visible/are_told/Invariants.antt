use Rattle.std.proofs.Common.{◌<◌, ℕ}
use Rattle.cn_choice.specs.Canonical.{raw_choice_of}
use Rattle.cn_views.specs.VisibleChoices.{IsToldTo}
use Rattle.cn_views.proofs.visible.are_told.Given as goal

-- each process so far is told
abbrev pub invariant-loop-process : goal.invariant-loop-process
invariant-loop-process l = (j : ℕ) → j < l.process → IsToldTo l.table l.looks.operations.items (raw_choice_of l.choice) j
