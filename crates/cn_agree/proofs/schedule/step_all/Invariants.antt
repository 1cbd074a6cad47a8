use Rattle.cn_agree.proofs.Running.{HasRun}
use Rattle.cn_agree.proofs.schedule.step_all.Given as goal

abbrev pub invariant-loop-p : goal.invariant-loop-p
invariant-loop-p g l = HasRun l.plan l.fn.round l.schedule l.p-index l.round
