use Rattle.cn_proto.proofs.PlanLemmas.{plan_sound}
use Rattle.cn_lives.proofs.Fitting.{fits}
use Rattle.cn_life_laws.proofs.Executions.{schedule}
use Rattle.cn_life_laws.proofs.Mirroring.{mirrors_crash, mirrors_schedule, mirrors_step}
use Rattle.cn_life_laws.proofs.laws.lives_go_as_the_protocol.Goals as goal

pub returns : goal.returns
returns c = record {
  step = λ p f w d q is live l m.
      (let sound = plan_sound p.plan is.is_plan in
      mirrors_step p is.is_plan sound f q w d l (fits p is.is_plan sound live.0 w live.1) m);
  crash = λ p f w d q is live l m.
      (let sound = plan_sound p.plan is.is_plan in
      mirrors_crash p is.is_plan sound f q w d l (fits p is.is_plan sound live.0 w live.1) m);
  schedule = λ p f inputs events is many k.
      mirrors_schedule p is.is_plan (plan_sound p.plan is.is_plan) f inputs events many k;
  executions = schedule;
}
