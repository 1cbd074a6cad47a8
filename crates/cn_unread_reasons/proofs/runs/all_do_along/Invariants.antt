use Rattle.std.proofs.Common.{◌<◌, ℕ}
use Rattle.cn_unread_reasons.specs.Plays.{DoesAlong}
use Rattle.cn_unread_reasons.proofs.runs.all_do_along.Given as goal

abbrev pub invariant-loop-process : goal.invariant-loop-process
invariant-loop-process l = (j : ℕ) → j < l.process → DoesAlong l.choice l.a_first l.b_first j
