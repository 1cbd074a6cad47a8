use Rattle.std.proofs.Common.{◌∙◌, ◌+◌, ◌<◌, ◌∷◌, [], ap, arith, length, map, subst, sym}
use Rattle.std.proofs.lemmas.Bool.{both_ways}
use Rattle.std.proofs.lemmas.List.{map-append}
use Rattle.cn_table.specs.Reach.{Leads}
use Rattle.cn_table.specs.declared.elements.State.{State}
use Rattle.cn_flaws.proofs.NoteLemmas.{AreThoseBelow, those_added, those_skipped}
use Rattle.cn_flaws.proofs.notes.unreached_states.Goals as goal

pub loop-number-preserved-then-reached-number : goal.loop-number-preserved-then-reached-number
loop-number-preserved-then-reached-number c =
    let n = c.loop-number.number in
    let known : n < length c.args.table.now.states = omega (arith, c.loop-number-test.true, c.states-number-end.ensures.number) in
    those_skipped (λ q. ¬ Leads c.args.table.now 0 q) n (map (λ (q : State). q.0) c.loop-number.unreached.items)
    (λ isnt. isnt ((c.reached_states-reached.ensures n known).0 c.if-reached-number.true)) c.loop-number.invariant

pub loop-number-preserved : goal.loop-number-preserved
loop-number-preserved c =
    let n = c.loop-number.number in
    let old = c.loop-number.unreached.items in
    let known : n < length c.args.table.now.states = omega (arith, c.loop-number-test.true, c.states-number-end.ensures.number) in
    subst (AreThoseBelow (λ q. ¬ Leads c.args.table.now 0 q) (n + 1))
    (sym (ap (map (λ (q : State). q.0)) c.in_ok-push.ensures.items ∙ map-append (λ (q : State). q.0) old (record { 0 = n } ∷ [])))
    (those_added (λ q. ¬ Leads c.args.table.now 0 q) n (map (λ (q : State). q.0) old)
    (λ way. both_ways _ c.if-reached-number.false ((c.reached_states-reached.ensures n known).1 way)) c.loop-number.invariant)

pub returns : goal.returns
returns c =
    subst (λ n. AreThoseBelow (λ q. ¬ Leads c.args.table.now 0 q) n (map (λ (q : State). q.0) c.loop-number.unreached.items))
    (omega (arith, c.loop-number-test.false, c.loop-number.auto.number-end, c.states-number-end.ensures.number)) c.loop-number.invariant
