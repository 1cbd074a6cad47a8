use Rattle.std.proofs.Common.{◌≡◌, take}
use Rattle.cn_unread_reasons.specs.Plays.{steps_by}
use Rattle.cn_unread_reasons.proofs.runs.steps_by.Given as goal

abbrev pub invariant-loop-step : goal.invariant-loop-step
invariant-loop-step l = l.steps.items ≡ steps_by l.process (take l.step-index l.run)
