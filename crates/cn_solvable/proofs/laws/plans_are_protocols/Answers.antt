use Rattle.cn_solvable.proofs.Plans as plans
use Rattle.cn_solvable.proofs.laws.plans_are_protocols.Goals as goal

pub returns : goal.returns
returns c = record {
  of_type = plans.of_type c.plan_protocols_are_sound.ensures.sound;
  consensus = λ plan is. plans.consensus c.plan_protocols_are_sound.ensures.sound plan is
      c.sound_protocols_reach_consensus.ensures c.plan_protocols_are_sound.ensures.short;
}
