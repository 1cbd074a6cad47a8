use Rattle.cn_solvable.proofs.Plans as plans
use Rattle.cn_solvable.proofs.laws.plans_step_as_rounds.Goals as goal

pub returns : goal.returns
returns c = record {
  mirrors = plans.mirrors c.plan_protocols_are_sound.ensures.sound;
  decisions = plans.decisions c.plan_protocols_are_sound.ensures.sound;
}
