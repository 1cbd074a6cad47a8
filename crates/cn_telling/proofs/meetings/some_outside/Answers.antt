use Rattle.std.proofs.Common.{rules, ℕ, ◌<◌, ◌^◌, ◌∙◌, inl, inr, arith, get_or, refl, subst, sym, true≢false}
use Rattle.std.specs.Prelude.{IsBitSet}
use Rattle.cn_outcomes.proofs.LastProcess.{zero_has_none}
use Rattle.cn_outcomes.proofs.Packing.{below_or_last}
use Rattle.cn_stocks.specs.Meetings.{IsOutside}
use Rattle.cn_stocks.proofs.MeetingLemmas.{place_within}
use Rattle.cn_stocks.proofs.PairLemmas.{some_bit}
use Rattle.cn_telling.proofs.meetings.some_outside.Goals as goal
use Rattle.cn_telling.proofs.meetings.some_outside.Goals.{else-sets-operation-ne0-via-then-sets-operation-ne0+else-not-meet, else-sets-operation-ne0-via-else-sets-operation-ne0}

pub returns-then-not-meet : goal.returns-then-not-meet
returns-then-not-meet c =
    let sets = c.args.sets.now in
    let k = c.loop-operation.operation in
    let small : get_or sets k 0 < 2 ^ 16 = search rules in
    let out : IsOutside sets c.args.set k = record {
      some = some_bit (get_or sets k 0) small c.if-sets-operation-ne0.true;
      apart = λ q h b. true≢false (sym (c.meet.ensures.1 (q, h, b)) ∙ c.if-not-meet.true);
    } in
    (λ h. (k, out), λ g. refl)

pub loop-operation-preserved : goal.loop-operation-preserved
loop-operation-preserved c =
    let sets = c.args.sets.now in
    let set = c.args.set in
    let k = c.loop-operation.operation in
    let i = c.loop-operation.invariant in
    let here : IsOutside sets set k → ⊥ = λ o. elim c.else-sets-operation-ne0.branch [
      | else-sets-operation-ne0-via-then-sets-operation-ne0+else-not-meet w ↦ (let m = w.meet.ensures.0 w.if-not-meet.false in o.apart m.0 m.1 m.2)
      | else-sets-operation-ne0-via-else-sets-operation-ne0 w ↦ zero_has_none o.some.0 (subst (λ (n : ℕ). IsBitSet n o.some.0) w.if-sets-operation-ne0.false o.some.1)
    ] in
    record {
      long = i.long;
      none = λ g l o. elim (below_or_last g k l) [ inl u ↦ i.none g u o | inr e ↦ here (subst (λ (x : ℕ). IsOutside sets set x) e o) ];
    }

pub returns : goal.returns
returns c =
    let i = c.loop-operation.invariant in (
      λ h. absurd (true≢false (sym h)),
      λ g. absurd (i.none g.0 (omega (arith, place_within 8 c.args.sets.now g.0 g.1.some.0 i.long g.1.some.1, c.loop-operation-test.false)) g.1),
    )
