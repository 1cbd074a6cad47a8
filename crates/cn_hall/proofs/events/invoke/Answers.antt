use Rattle.std.proofs.Common.{◌<◌, length, sym, refl, ap, ◌∙◌, subst}
use Rattle.cn_proto.specs.Plan.{processes_of}
use Rattle.cn_log.specs.Log.{Caller}
use Rattle.cn_log.specs.Opening.{Log, Opening}
use Rattle.cn_log.specs.declared.event.Event.TheVariants.{Invoke}
use Rattle.crossbeam_queue.specs.Passes.{view}
use Rattle.cn_hall.specs.declared.rule.View.{View}
use Rattle.cn_hall.specs.Seats.{core_of, IsLog}
use Rattle.cn_hall.proofs.Callers.{caller_carried}
use Rattle.cn_hall.proofs.Sitting.{sits_pairs, agreed, sits_later}
use Rattle.cn_hall.proofs.events.invoke.Goals as goal

pub invoke-requires : goal.invoke-requires
invoke-requires g c = let v = view c.args.pass.now in let x = c.take-item.result in
    let k = agreed v x c.args.process (core_of v) c.requires.sits c.take-item.ensures.agrees in
    let same = caller_carried c.callers_change_by_own_events.ensures.stays c.args.process (core_of v) x.core k in
    record {
      process = subst (λ (o : Opening). c.args.process < processes_of o.plan) (sym k.0) c.requires.process;
      operation = subst (λ (o : Opening). c.args.operation.0 < length o.object.operations) (sym k.0) c.requires.operation;
      idle = ap (λ (y : Caller). y.phase) same ∙ c.requires.idle;
      not_at_end = subst (λ (z : Caller × Opening). length z.0.seen < z.1.capacity) (λ i. (sym same i, sym k.0 i)) c.requires.room;
    }

pub put_step-requires-clause-event : goal.put_step-requires-clause-event
put_step-requires-clause-event g c = let v = view c.args.pass.now in let h = c.take-item.ensures.held in
    record {
      process = c.args.process;
      log = core_of v;
      before = c.take-item.result.core;
      event = Invoke c.args.process c.args.operation.0;
      knows = ap (λ (u : View). u.pairs) h ∙ sits_pairs v _ _ c.requires.sits;
      held = ap (λ (u : View). u.held) h;
      core = c.invoke.ensures;
      own = refl;
    }

pub returns-clause-invoked : goal.returns-clause-invoked
returns-clause-invoked g c = let v = view c.args.pass.now in
    let same = ap core_of (sits_later v _ _ _ _ c.take-item.result _ c.requires.sits c.take-item.ensures.held c.put_step.ensures.now) in (
      c.take-item.result.core,
      agreed v c.take-item.result c.args.process (core_of v) c.requires.sits c.take-item.ensures.agrees,
      same ∙ c.invoke.ensures,
      subst (λ (x : Log). IsLog x) (sym same) c.of-standing.ensures.log,
    )
