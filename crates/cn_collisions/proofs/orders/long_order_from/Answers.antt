use Rattle.std.proofs.Common.{◌+◌, ap, arith, inl, inr, length, sym, subst}
use Rattle.cn_choice.specs.RawChoices.{RawChoice}
use Rattle.cn_choice.specs.TeamOrders.{team_from, team_to}
use Rattle.cn_outcomes.proofs.LastProcess.{same_or_not}
use Rattle.cn_collisions.specs.OutcomeOrders.{NoneOfLength}
use Rattle.cn_collisions.proofs.FirstOrders.{first_into, none_at, none_into}
use Rattle.cn_collisions.proofs.OpeningLemmas.{first_onward, have_room, none_onward, start_room, way_from_step}
use Rattle.cn_collisions.proofs.orders.long_order_from.Goals as goal

pub loop-left-init : goal.loop-left-init
loop-left-init c = record { none = λ k l. c.requires.shorter k (omega (arith, l)); empty = c.requires.empty }

pub first_opening-requires-clause-room : goal.first_opening-requires-clause-room
first_opening-requires-clause-room c =
    let a = c.args.asked.now in
    let few = start_room a.view a.start c.requires.asked.start in
    let every = ap (λ (r : RawChoice). length r.operations) c.raw.view_is in
    have_room a.view (team_from a.choice.now c.args.team) (team_to a.choice.now c.args.team) a.start c.args.target.now c.loop-left.left c.args.openings.now c.requires.openings
    (omega (arith, few, every, c.len-n.ensures.value, c.loop-left-test.true))

pub way_after-requires-clause-prefix : goal.way_after-requires-clause-prefix
way_after-requires-clause-prefix c =
    let a = c.args.asked.now in
    (first_onward a.view (team_from a.choice.now c.args.team) (team_to a.choice.now c.args.team) a.start c.args.target.now c.loop-left.left c.args.openings.now c.requires.openings
    c.in-Some.step.now c.in-Some.ensures.first).step.prefix

pub way_after-requires-clause-left : goal.way_after-requires-clause-left
way_after-requires-clause-left c =
    let a = c.args.asked.now in
    let few = start_room a.view a.start c.requires.asked.start in
    let every = ap (λ (r : RawChoice). length r.operations) c.raw.view_is in
    let is = first_onward a.view (team_from a.choice.now c.args.team) (team_to a.choice.now c.args.team) a.start c.args.target.now c.loop-left.left c.args.openings.now c.requires.openings
    c.in-Some.step.now c.in-Some.ensures.first in
    omega (arith, is.step.room, few, every, c.len-n.ensures.value, c.loop-left-test.true)

pub returns-in-Some-clause-first : goal.returns-in-Some-clause-first
returns-in-Some-clause-first c =
    let a = c.args.asked.now in
    let low = team_from a.choice.now c.args.team in
    let high = team_to a.choice.now c.args.team in
    let set = c.args.target.now in
    let left = c.loop-left.left in
    let raw = a.view.raw.now in
    let start = c.requires.asked.start in
    let step = c.in-Some.step.now in
    let order = c.way_after.new.order.items in
    let is = first_onward a.view low high a.start set left c.args.openings.now c.requires.openings step c.in-Some.ensures.first in
    let way = way_from_step a.view low high a.start set left step is c.loop-left.order.items order c.way_after.result c.loop-left.invariant.empty c.way_after.ensures.way in
    let first = rw (start.used, start.seen, start.state) at way in
    first_into a.view.sets.now.table.now a.choice.now raw c.requires.asked.same c.args.team a.view.process set (left + 1) order c.way_after.result c.loop-left.invariant.none first

pub loop-left-preserved : goal.loop-left-preserved
loop-left-preserved c =
    let a = c.args.asked.now in
    let low = team_from a.choice.now c.args.team in
    let high = team_to a.choice.now c.args.team in
    let set = c.args.target.now in
    let left = c.loop-left.left in
    let t = a.view.sets.now.table.now in
    let raw = a.view.raw.now in
    let start = c.requires.asked.start in
    let i = c.loop-left.invariant in
    let way = none_onward a.view low high a.start set left c.args.openings.now c.requires.openings c.in_default.ensures.none in
    let none = rw (start.used, start.seen, start.state) at way in
    let here : NoneOfLength t raw c.args.team a.view.process set (left + 1) = none_at t a.choice.now raw c.requires.asked.same c.args.team a.view.process set (left + 1) none in
    record {
      none = λ k l. elim (same_or_not k (left + 1)) [ inl e ↦ subst (NoneOfLength t raw c.args.team a.view.process set) (sym e) here | inr n ↦ i.none k (omega (arith, l, n)) ];
      empty = i.empty;
    }

pub returns-clause-none : goal.returns-clause-none
returns-clause-none c =
    let a = c.args.asked.now in
    let seen = ap (λ (r : RawChoice). length r.operations) c.raw.view_is in
    none_into a.view.sets.now.table.now a.choice.now a.view.raw.now c.requires.asked.same c.args.team a.view.process c.args.target.now
    (λ k l. c.loop-left.invariant.none k (omega (arith, l, seen, c.len-n.ensures.value, c.loop-left-test.false, c.loop-left.auto.left)))
