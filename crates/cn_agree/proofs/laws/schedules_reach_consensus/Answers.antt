use Rattle.std.proofs.Common.{length, refl}
use Rattle.cn_proto.specs.Plan.{protocol_of, processes_of, nodes_of}
use Rattle.cn_proto.specs.Tournament.{team_of}
use Rattle.cn_agree.proofs.Agreeing.{schedules_reach_consensus}
use Rattle.cn_agree.proofs.laws.schedules_reach_consensus.Goals as goal

pub returns : goal.returns
returns g c = λ inputs schedule many all.
    schedules_reach_consensus (protocol_of c.args.plan.now) (processes_of c.args.plan.now) (nodes_of c.args.plan.now)
    (team_of (length c.args.plan.now.choice.a)) c.plans_are_sound.ensures.sound inputs schedule many all c.plans_are_sound.ensures.short refl
