use Rattle.std.proofs.Common.{◌≡◌, sym, ap, ◌∙◌, length, rules}
use Rattle.crossbeam_queue.specs.Passes.{view}
use Rattle.cn_hall.specs.declared.rule.View.{View}
use Rattle.cn_hall.specs.Seats.{SeatState, core_of, entries_seen}
use Rattle.cn_hall.proofs.Meeting.{both_see, one_opening, have_met, log_of, met_seen, only_made}
use Rattle.cn_hall.proofs.hall.Hall.meet.Goals as goal

pub look-requires-2-clause-other : goal.look-requires-2-clause-other
look-requires-2-clause-other g c = let h = c.look.ensures.same.1 in (ap (λ (v : View). v.status) h, λ none. let e = sym (ap (λ (v : View). v.pairs) h) ∙ none in cc)

pub returns-clause-opening : goal.returns-clause-opening
returns-clause-opening g c = let see = both_see _ _ c.args.first.now c.args.second.now (core_of (view c.look.new.other))
    (core_of (view c.look.new.pass)) c.first.view_is c.second.view_is c.look.ensures.met
    (ap core_of c.look.ensures.other.1) (ap core_of c.look.ensures.same.1) c.look-2.ensures.met in
    one_opening c.args.first.now c.args.second.now see.0

pub returns-clause-met : goal.returns-clause-met
returns-clause-met g c = let see = both_see _ _ c.args.first.now c.args.second.now (core_of (view c.look.new.other))
    (core_of (view c.look.new.pass)) c.first.view_is c.second.view_is c.look.ensures.met
    (ap core_of c.look.ensures.other.1) (ap core_of c.look.ensures.same.1) c.look-2.ensures.met in
    have_met c.args.first.now c.args.second.now see.0 see.1

pub returns-clause-made : goal.returns-clause-made
returns-clause-made g c = let see = both_see _ _ c.args.first.now c.args.second.now (core_of (view c.look.new.other))
    (core_of (view c.look.new.pass)) c.first.view_is c.second.view_is c.look.ensures.met
    (ap core_of c.look.ensures.other.1) (ap core_of c.look.ensures.same.1) c.look-2.ensures.met in
    only_made c.calls_are_in_order.ensures.grow c.calls_are_in_order.ensures.stay c.calls_are_in_order.ensures.seen_made c.args.first.now c.args.second.now
    (log_of _ c.args.first.now c.first.view_is c.first.invariant.5)
    (log_of _ c.args.second.now c.second.view_is c.second.invariant.5)
    (have_met c.args.first.now c.args.second.now see.0 see.1)

pub returns-clause-seen : goal.returns-clause-seen
returns-clause-seen g c = let see = both_see _ _ c.args.first.now c.args.second.now (core_of (view c.look.new.other))
    (core_of (view c.look.new.pass)) c.first.view_is c.second.view_is c.look.ensures.met
    (ap core_of c.look.ensures.other.1) (ap core_of c.look.ensures.same.1) c.look-2.ensures.met in
    met_seen c.callers_change_by_own_events.ensures.stays c.callers_change_by_own_events.ensures.replayed c.args.first.now c.args.second.now
    (log_of _ c.args.first.now c.first.view_is c.first.invariant.5) (log_of _ c.args.second.now c.second.view_is c.second.invariant.5)
    (one_opening c.args.first.now c.args.second.now see.0) (have_met c.args.first.now c.args.second.now see.0 see.1)

pub returns-clause-order : goal.returns-clause-order
returns-clause-order g c =
    let one : c.first.inside.standing.entries ≡ length (entries_seen c.args.first.now) = c.first.invariant.4.0 ∙ ap (λ (s : SeatState). length (entries_seen s)) c.first.view_is in
    let two : c.second.inside.standing.entries ≡ length (entries_seen c.args.second.now) = c.second.invariant.4.0 ∙ ap (λ (s : SeatState). length (entries_seen s)) c.second.view_is in
    rw (← one, ← two) (search rules)
