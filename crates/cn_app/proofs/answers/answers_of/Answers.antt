use Rattle.std.proofs.Common.{◌≡◌, ◌∙◌, ◌++◌, List, ap, inr, refl, append-nil, arith, rules, subst, sym, take}
use Rattle.std.proofs.lemmas.Grind.{common_steps}
use Rattle.std.proofs.lemmas.List.{drop_all, take_all}
use Rattle.std.proofs.lemmas.Result.{err_from_is_err_and}
use Rattle.cn_log.specs.Faults.{IsFirstEventFault}
use Rattle.cn_log.specs.Linearized.{IsLinearized}
use Rattle.cn_log.specs.Log.{IsEventList}
use Rattle.cn_log.specs.Opening.{Opening, setting, setting_of}
use Rattle.cn_log.specs.declared.event.Event.{Event}
use Rattle.cn_app.specs.Answers.{ends_after}
use Rattle.cn_app.proofs.LineLemmas.Log.{first_in_list, responses_more}
use Rattle.cn_app.proofs.answers.answers_of.Goals as goal

pub come-requires : goal.come-requires
come-requires c = let i = c.loop-event.invariant in omega (arith, i.few, i.room, c.loop-event-test.true, c.loop-event.ends.ok)

pub loop-event-preserved : goal.loop-event-preserved
loop-event-preserved c = record {
  opening = search rules;
  schedule = grind (arith, common_steps);
  ends = grind (arith, common_steps);
  responses = rw c.in_ok-come.ensures.ends (responses_more c.args.opening.object c.loop-event.core.opening.object c.loop-event.ends.items _
      (ap (λ (o : Opening). o.object) c.loop-event.invariant.opening) c.loop-event.invariant.responses c.in_ok-come.ensures.responses);
  few = omega (arith, c.come.ensures.few, c.loop-event.invariant.few);
  room = search rules;
}

pub returns-in_err-come-clause-fault : goal.returns-in_err-come-clause-fault
returns-in_err-come-clause-fault c =
    let p = err_from_is_err_and c.from_residual-in_err-come.result c.from_residual-in_err-come.ensures.1 in
    let i = c.loop-event.invariant in
    rw (p.1, p.2) (inr (
      c.in_err-come.field-0.0,
      subst (λ (o : Opening). IsFirstEventFault (setting_of o) c.args.events.now c.in_err-come.field-0.0) i.opening
          (first_in_list (setting c.loop-event.core) c.args.events.now c.loop-event.event-index _ c.loop-event.core.schedule c.in_err-come.field-0.0 i.schedule
          c.loop-event-test.true c.in_err-come.ensures.first),
      refl,
    ))

pub returns-clause-schedule : goal.returns-clause-schedule
returns-clause-schedule c = c.loop-event.invariant.schedule ∙ take_all c.loop-event.event-index c.args.events.now c.loop-event-test.false

pub returns-clause-ends : goal.returns-clause-ends
returns-clause-ends c =
    let k = c.loop-event.event-index in
    let es : List Event = c.args.events.now in
    let ends = c.loop-event.ends.items in
    sym (append-nil ends) ∙ ap (λ (l : List Event). ends ++ ends_after (setting_of c.args.opening) (take k es) l) (sym (drop_all k es c.loop-event-test.false)) ∙ c.loop-event.invariant.ends

-- a fact about the events of a log, by other names of its opening and of all events
of_all_events : (P : Opening → List Event → Type 0) (o p : Opening) (es fs : List Event) → o ≡ p → es ≡ fs → P o es → P p fs
of_all_events P o p es fs opening all h = subst (λ (q : Opening). P q fs) opening (subst (λ (l : List Event). P o l) all h)

pub returns-clause-events : goal.returns-clause-events
returns-clause-events c =
    of_all_events (λ o es. IsEventList (setting_of o) es) c.loop-event.core.opening c.args.opening c.loop-event.core.schedule c.args.events.now c.loop-event.invariant.opening
    (c.loop-event.invariant.schedule ∙ take_all c.loop-event.event-index c.args.events.now c.loop-event-test.false) c.logs_are_linearized.ensures.events

pub returns-clause-linearized : goal.returns-clause-linearized
returns-clause-linearized c =
    of_all_events (λ o es. IsLinearized (setting_of o) es) c.loop-event.core.opening c.args.opening c.loop-event.core.schedule c.args.events.now c.loop-event.invariant.opening
    (c.loop-event.invariant.schedule ∙ take_all c.loop-event.event-index c.args.events.now c.loop-event-test.false) c.logs_are_linearized.ensures.linearized
