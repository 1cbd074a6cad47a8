use Rattle.std.proofs.Common.{◌≡◌, map, take}
use Rattle.cn_agree.specs.Rounds.{decision_of}
use Rattle.cn_agree.proofs.schedule.decisions_of.Given as goal

abbrev pub invariant-loop-p : goal.invariant-loop-p
invariant-loop-p g l = l.decisions.items ≡ map decision_of (take l.p l.round.locals)
