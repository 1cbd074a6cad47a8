use Rattle.std.proofs.Common.{length, refl}
use Rattle.cn_proto.specs.Plan.{protocol_of, processes_of, nodes_of}
use Rattle.cn_proto.specs.Tournament.{team_of}
use Rattle.cn_agree.proofs.Agreeing.{schedules_reach_consensus}
use Rattle.cn_agree.proofs.laws.plans_reach_consensus.Goals as goal

pub returns : goal.returns
returns g c = λ plan is inputs schedule many all.
    schedules_reach_consensus (protocol_of plan) (processes_of plan) (nodes_of plan) (team_of (length plan.choice.a))
    (c.plan_protocols_are_sound.ensures.sound plan is) inputs schedule many all (c.plan_protocols_are_sound.ensures.short plan is) refl
