use Rattle.std.proofs.Common.{subst}
use Rattle.std.proofs.lemmas.Result.{err_from_is_err_and}
use Rattle.cn_log.proofs.StateLemmas.Faults.{first_in}
use Rattle.cn_log.specs.Faults.{IsFirstEventFault}
use Rattle.cn_log.specs.Opening.{Opening, setting, setting_of}
use Rattle.cn_log.proofs.event_list.replay_on.Goals as goal

pub returns-in_err-take-clause-fault : goal.returns-in_err-take-clause-fault
returns-in_err-take-clause-fault c =
    let p = err_from_is_err_and c.from_residual.result c.from_residual.ensures.1 in
    let i = c.loop-event.invariant in
    let core = c.loop-event.core in
    let fault = c.in_err-take.field-0.0 in
    rw (p.1, p.2) (subst (λ (o : Opening). IsFirstEventFault (setting_of o) c.args.events.now fault) i.opening
    (first_in (setting core) c.args.events.now c.loop-event.event-index _ core.schedule fault i.schedule c.loop-event-test.true c.in_err-take.ensures.first))
