use Rattle.std.proofs.Common.{subst}
use Rattle.cn_proto.specs.Plan.{IsPlan}
use Rattle.cn_log.specs.Opening.{Opening}
use Rattle.cn_log.proofs.laws.openings_are_valid.Goals as goal

pub returns-clause-agrees : goal.returns-clause-agrees
returns-clause-agrees c = c.rounds_agree.ensures.agrees c.args.opening.now (subst (λ (o : Opening). IsPlan o.plan) c.opening.view_is c.plans_are_sound.ensures.plan)

pub returns-clause-begun : goal.returns-clause-begun
returns-clause-begun c = c.rounds_agree.ensures.begun c.args.opening.now (subst (λ (o : Opening). IsPlan o.plan) c.opening.view_is c.plans_are_sound.ensures.plan)

pub returns-clause-sizes : goal.returns-clause-sizes
returns-clause-sizes c = c.rounds_agree.ensures.sizes c.args.opening.now (subst (λ (o : Opening). IsPlan o.plan) c.opening.view_is c.plans_are_sound.ensures.plan)
