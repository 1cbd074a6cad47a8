use Rattle.std.proofs.Common.{◌<◌, sym, refl, ap, ◌∙◌, subst}
use Rattle.cn_proto.specs.Plan.{processes_of}
use Rattle.cn_log.specs.Callers.{HasResponse}
use Rattle.cn_log.specs.Log.{Caller}
use Rattle.cn_log.specs.Opening.{Log, Opening}
use Rattle.cn_log.specs.declared.event.Event.TheVariants.{Step}
use Rattle.crossbeam_queue.specs.Passes.{view}
use Rattle.cn_hall.specs.declared.rule.View.{View}
use Rattle.cn_hall.specs.Seats.{core_of, IsLog}
use Rattle.cn_hall.proofs.Callers.{caller_carried}
use Rattle.cn_hall.proofs.Sitting.{sits_pairs, agreed, sits_later}
use Rattle.cn_hall.proofs.events.step.Goals as goal

pub step-answer-requires : goal.step-answer-requires
step-answer-requires g c = let v = view c.args.pass.now in let x = c.take-item.result in
    let k = agreed v x c.args.process (core_of v) c.requires.sits c.take-item.ensures.agrees in
    record {
      process = subst (λ (o : Opening). c.args.process < processes_of o.plan) (sym k.0) c.requires.process;
      in_call = λ idle. c.requires.in_call (sym (ap (λ (y : Caller). y.phase) (caller_carried c.callers_change_by_own_events.ensures.stays c.args.process (core_of v) x.core k)) ∙ idle);
    }

pub put_step-requires-clause-event : goal.put_step-requires-clause-event
put_step-requires-clause-event g c = let v = view c.args.pass.now in let h = c.take-item.ensures.held in
    record {
      process = c.args.process;
      log = core_of v;
      before = c.take-item.result.core;
      event = Step c.args.process;
      knows = ap (λ (u : View). u.pairs) h ∙ sits_pairs v _ _ c.requires.sits;
      held = ap (λ (u : View). u.held) h;
      core = c.step-answer.ensures.core;
      own = refl;
    }

pub returns-clause-step : goal.returns-clause-step
returns-clause-step g c = let v = view c.args.pass.now in
    let same = ap core_of (sits_later v _ _ _ _ c.take-item.result _ c.requires.sits c.take-item.ensures.held c.put_step.ensures.now) in (
      c.take-item.result.core,
      agreed v c.take-item.result c.args.process (core_of v) c.requires.sits c.take-item.ensures.agrees,
      same ∙ c.step-answer.ensures.core,
      c.step-answer.ensures.answer,
      subst (λ (x : Log). IsLog x) (sym same) c.of-standing.ensures.log,
    )

pub returns-clause-range : goal.returns-clause-range
returns-clause-range g c = let k = agreed (view c.args.pass.now) c.take-item.result c.args.process (core_of (view c.args.pass.now)) c.requires.sits c.take-item.ensures.agrees in
    subst (λ (o : Opening). HasResponse o.object c.step-answer.result) k.0 c.step-answer.ensures.range
