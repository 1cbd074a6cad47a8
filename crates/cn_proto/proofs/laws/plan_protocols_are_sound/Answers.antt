use Rattle.cn_proto.proofs.PlanLemmas.{plan_short, plan_sound}
use Rattle.cn_proto.proofs.laws.plan_protocols_are_sound.Goals as goal

pub returns-clause-sound : goal.returns-clause-sound
returns-clause-sound c = plan_sound

pub returns-clause-short : goal.returns-clause-short
returns-clause-short c = plan_short
