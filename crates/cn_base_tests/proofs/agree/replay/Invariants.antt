use Rattle.cn_proto.specs.Plan.{processes_of}
use Rattle.cn_agree.specs.Beginning.{AllHaveBegun}
use Rattle.cn_agree.specs.Rounds.{RunsBy}
use Rattle.cn_base_tests.proofs.agree.replay.Given as goal

abbrev pub invariant-loop-p : goal.invariant-loop-p
invariant-loop-p g l = RunsBy l.plan l.round × AllHaveBegun (processes_of l.plan) l.round
