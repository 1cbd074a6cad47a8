use Rattle.cn_agree.specs.Beginning.{HaveBegun}
use Rattle.cn_agree.proofs.schedule.begin_all.Given as goal

abbrev pub invariant-loop-p : goal.invariant-loop-p
invariant-loop-p g l = HaveBegun l.plan l.inputs l.p l.round
