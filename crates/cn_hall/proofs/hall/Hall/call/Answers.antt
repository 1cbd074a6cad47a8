use Rattle.std.proofs.Common.{◌≡◌, ◌<◌, List, length, inl, refl, ap, sym, ◌∙◌, Some, None, subst}
use Rattle.cn_log.specs.declared.entry.Entry.{Entry}
use Rattle.cn_hall.specs.Seats.{SeatState, pending, entries_seen, slots_seen}
use Rattle.cn_proto.specs.Plan.{processes_of}
use Rattle.cn_hall.specs.Answers.{own}
use Rattle.cn_hall.specs.Calls.{MakesCall, CallFails, EndsBy, IsReply, next_call}
use Rattle.cn_log.specs.Callers.{BeginsWith}
use Rattle.cn_hall.specs.Gates.{IsAsked, asked_times, steps_since}
use Rattle.cn_hall.proofs.Asking.{asked_from, since_call, since_same}
use Rattle.cn_hall.proofs.Calling.{called, call_pending, call_seen, if_ok, if_err, fails, own_called, adds_from}
use Rattle.cn_hall.proofs.Numbering.{next_unseen}
use Rattle.cn_hall.proofs.hall.Hall.call.Goals as goal

pub resume-requires-clause-in_call : goal.resume-requires-clause-in_call
resume-requires-clause-in_call g c none = let h : Some (next_call c.args.seat.now c.args.operation.0) ≡ None =
    sym (call_pending c.callers_change_by_own_events.ensures.stays c.callers_change_by_own_events.ensures.invoked c.args.seat.now c.invoke.new.seat c.args.operation.0
    c.invoke.ensures.same c.invoke.ensures.invoked) ∙ none in cc

pub returns-clause-seen : goal.returns-clause-seen
returns-clause-seen g c = subst (λ (l : List Entry). BeginsWith (entries_seen c.resume.new.seat) l)
    (call_seen c.callers_change_by_own_events.ensures.stays c.callers_change_by_own_events.ensures.invoked c.args.seat.now c.invoke.new.seat c.args.operation.0
    c.invoke.ensures.same c.invoke.ensures.invoked) c.resume.ensures.seen

pub returns-clause-reply : goal.returns-clause-reply
returns-clause-reply g c = let a = c.args.seat.now in let b = c.invoke.new.seat in let d = c.resume.new.seat in let op = c.args.operation.0 in
    let went : MakesCall a.process op a.core d.core = called a b d op c.invoke.ensures.same c.invoke.ensures.invoked c.resume.ensures.events in
    if_ok c.resume.result (λ r. (k : Entry) → pending b ≡ Some k → IsReply k d r) (λ r. MakesCall a.process op a.core d.core × IsReply (next_call a op) d r)
    (λ r h. (
      went,
      h (next_call a op)
          (call_pending c.callers_change_by_own_events.ensures.stays c.callers_change_by_own_events.ensures.invoked a b op c.invoke.ensures.same c.invoke.ensures.invoked),
    )) c.resume.ensures.reply

pub returns-clause-fault : goal.returns-clause-fault
returns-clause-fault g c = let a = c.args.seat.now in let b = c.invoke.new.seat in let d = c.resume.new.seat in let op = c.args.operation.0 in
    let went : MakesCall a.process op a.core d.core = called a b d op c.invoke.ensures.same c.invoke.ensures.invoked c.resume.ensures.events in
    if_err c.resume.result (λ e. (k : Entry) → pending b ≡ Some k → EndsBy k e d) (λ e. CallFails op e a d)
    (λ e h. fails a d op e went (h (next_call a op)
    (call_pending c.callers_change_by_own_events.ensures.stays c.callers_change_by_own_events.ensures.invoked a b op c.invoke.ensures.same c.invoke.ensures.invoked))) c.resume.ensures.fault

pub returns-clause-own : goal.returns-clause-own
returns-clause-own g c = adds_from (own c.args.seat.now) (own c.invoke.new.seat) (own c.resume.new.seat) c.resume.result
    (own_called c.callers_change_by_own_events.ensures.stays c.callers_change_by_own_events.ensures.invoked c.args.seat.now c.invoke.new.seat c.args.operation.0
    c.invoke.ensures.same c.invoke.ensures.invoked) c.resume.ensures.own

pub returns-then-seat-clause-fault : goal.returns-then-seat-clause-fault
returns-then-seat-clause-fault g c = let s : SeatState = c.args.seat.now in
    let one : c.seat.inside.standing.slots ≡ length (slots_seen s) = c.seat.invariant.4.1 ∙ ap (λ (t : SeatState). length (slots_seen t)) c.seat.view_is in
    let two : c.seat.inside.capacity ≡ s.core.opening.capacity = c.seat.invariant.3 ∙ ap (λ (t : SeatState). t.core.opening.capacity) c.seat.view_is in (
      (c.requires.idle, sym one ∙ c.if-seat.true ∙ two),
      next_unseen c.calls_are_in_order.ensures.own c.calls_are_in_order.ensures.called s c.args.operation.0 c.seats_have_their_calls.ensures.log
          (subst (λ (t : SeatState). t.process < processes_of t.core.opening.plan) c.seat.view_is c.seat.invariant.2),
      inl refl,
    )

pub returns-clause-told : goal.returns-clause-told
returns-clause-told g c full =
    let one : c.seat.inside.standing.slots ≡ length (slots_seen c.args.seat.now) = c.seat.invariant.4.1 ∙ ap (λ (t : SeatState). length (slots_seen t)) c.seat.view_is in
    let two : c.seat.inside.capacity ≡ c.args.seat.now.core.opening.capacity = c.seat.invariant.3 ∙ ap (λ (t : SeatState). t.core.opening.capacity) c.seat.view_is in
    absurd (c.if-seat.false (one ∙ full ∙ sym two))

pub returns-clause-asked : goal.returns-clause-asked
returns-clause-asked g c = let a = c.args.seat.now in let b = c.invoke.new.seat in let d = c.resume.new.seat in let op = c.args.operation.0 in
    let mine = next_call a op in
    let times = asked_times c.resume.result (steps_since b.process b.core d.core) in
    subst (λ k. IsAsked g.G.Gate.asks g.G.Gate.says mine a d.core (asked_times c.resume.result k) c.args.gate.now c.resume.new.gate)
    (since_call g.G.Gate.asks g.G.Gate.says a b d op c.invoke.ensures.same c.invoke.ensures.invoked c.resume.ensures.events)
    (asked_from g.G.Gate.asks g.G.Gate.says a b d.core op mine c.invoke.ensures.same c.invoke.ensures.invoked times c.args.gate.now c.resume.new.gate
    (c.resume.ensures.asked mine (call_pending c.callers_change_by_own_events.ensures.stays c.callers_change_by_own_events.ensures.invoked a b op c.invoke.ensures.same c.invoke.ensures.invoked)))

pub returns-then-seat-clause-asked : goal.returns-then-seat-clause-asked
returns-then-seat-clause-asked g c = subst
    (λ k. IsAsked g.G.Gate.asks g.G.Gate.says (next_call c.args.seat.now c.args.operation.0) c.args.seat.now c.args.seat.now.core k c.args.gate.now c.args.gate.now)
    (sym (since_same c.args.seat.now.process c.args.seat.now.core)) refl
