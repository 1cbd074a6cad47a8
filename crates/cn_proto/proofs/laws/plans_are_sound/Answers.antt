use Rattle.cn_proto.proofs.NodeLemmas.{judges_at_nodes}
use Rattle.cn_proto.proofs.PlanLemmas.{plan_reachable, plan_short, plan_sound}
use Rattle.cn_proto.proofs.laws.plans_are_sound.Goals as goal

pub returns-clause-sound : goal.returns-clause-sound
returns-clause-sound c = rw (← c.plan.view_is) (plan_sound _ c.plan.invariant.0)

pub returns-clause-short : goal.returns-clause-short
returns-clause-short c = rw (← c.plan.view_is) (plan_short _ c.plan.invariant.0)

pub returns-clause-reachable : goal.returns-clause-reachable
returns-clause-reachable c = rw (← c.plan.view_is) (plan_reachable _ c.plan.invariant.0)

pub returns-clause-nodes : goal.returns-clause-nodes
returns-clause-nodes c = rw (← c.plan.view_is) (judges_at_nodes _ _ _ _ (plan_sound _ c.plan.invariant.0))
