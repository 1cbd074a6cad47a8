use Rattle.std.proofs.Common.{◌≡◌, map, take}
use Rattle.cn_lives.specs.Runs.{decision_of}
use Rattle.cn_lives.proofs.schedule.decisions_of.Given as goal

abbrev pub invariant-loop-p : goal.invariant-loop-p
invariant-loop-p l = l.decisions.items ≡ map decision_of (take l.p l.lives.locals.items)
