use Rattle.std.proofs.Common.{subst}
use Rattle.cn_log.specs.Log.{IsEventList}
use Rattle.cn_log.specs.Opening.{IsOpening, setting_of}
use Rattle.cn_log.proofs.laws.logs_are_linearized.Goals as goal

pub returns-clause-events : goal.returns-clause-events
returns-clause-events c = rw (← c.core.view_is) c.core.invariant.0.events

pub returns-clause-linearized : goal.returns-clause-linearized
returns-clause-linearized c =
    let opening = subst IsOpening c.deref.ensures c.openings_are_valid.ensures.opening in
    rw (← c.core.view_is) (c.event_lists_are_linearized.ensures.linearized c.core.inside.opening.value c.core.inside.schedule.items opening c.core.invariant.0.events)

pub returns-clause-grows : goal.returns-clause-grows
returns-clause-grows c =
    let o = c.core.inside.opening.value in
    let opening = subst IsOpening c.deref.ensures c.openings_are_valid.ensures.opening in
    rw (← c.core.view_is) (λ before after both. c.event_lists_are_linearized.ensures.grows o before after opening (subst (IsEventList (setting_of o)) both c.core.invariant.0.events))

pub returns-clause-in_turn : goal.returns-clause-in_turn
returns-clause-in_turn c =
    let opening = subst IsOpening c.deref.ensures c.openings_are_valid.ensures.opening in
    rw (← c.core.view_is) (c.event_lists_are_linearized.ensures.in_turn c.core.inside.opening.value c.core.inside.schedule.items opening c.core.invariant.0.events)

pub returns-clause-bypass : goal.returns-clause-bypass
returns-clause-bypass c =
    let opening = subst IsOpening c.deref.ensures c.openings_are_valid.ensures.opening in
    rw (← c.core.view_is) (c.event_lists_are_linearized.ensures.bypass c.core.inside.opening.value c.core.inside.schedule.items opening c.core.invariant.0.events)

pub returns-clause-wait_free : goal.returns-clause-wait_free
returns-clause-wait_free c =
    let opening = subst IsOpening c.deref.ensures c.openings_are_valid.ensures.opening in
    rw (← c.core.view_is) (c.event_lists_are_linearized.ensures.wait_free c.core.inside.opening.value c.core.inside.schedule.items opening c.core.invariant.0.events)
