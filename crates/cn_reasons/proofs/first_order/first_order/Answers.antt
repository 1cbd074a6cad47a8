use Rattle.std.proofs.Common.{◌≡◌, ◌∙◌, ◌+◌, ◌<◌, ◌++◌, [], ℕ, List, ap, arith, inl, inr, length, subst, sym}
use Rattle.cn_choice.specs.RawChoices.{RawChoice}
use Rattle.cn_outcomes.proofs.LastProcess.{same_or_not}
use Rattle.cn_reasons.specs.Beginnings.{IsFirstRest, NoRest}
use Rattle.cn_reasons.specs.NotRecording.{IsFirstOrder}
use Rattle.cn_reasons.proofs.RestLemmas.{begun_first, first_is, none_at_all, none_of_none}
use Rattle.cn_reasons.proofs.first_order.first_order.Goals as goal

pub loop-more-init : goal.loop-more-init
loop-more-init c = record {
  none = λ k l. none_of_none c.args.aim.now k (omega (arith, l));
  empty = c.new-order.ensures;
}

pub push_rest-requires-clause-beginning : goal.push_rest-requires-clause-beginning
push_rest-requires-clause-beginning c =
    let a = c.args.aim.now in
    begun_first a c.loop-more.order.items c.choice.inside.state.0 c.loop-more.invariant.empty
    (subst (λ (q : ℕ). q < length a.table.now.states) (sym (ap (λ (r : RawChoice). r.state) c.choice.view_is)) c.requires.aim.fits.state_known) (ap (λ (r : RawChoice). r.state) c.choice.view_is)

pub returns-then-push_rest : goal.returns-then-push_rest
returns-then-push_rest c =
    let a = c.args.aim.now in
    let i = c.loop-more.invariant in
    let r = c.push_rest.ensures.first c.if-push_rest.true in
    let whole = r.1 ∙ ap (λ (xs : List ℕ). xs ++ r.0) i.empty in
    let first = subst (λ (xs : List ℕ). IsFirstRest a (c.loop-more.more + 1) xs r.0) i.empty r.2 in
    subst (IsFirstOrder a.table.now a.choice.now a.team a.state.0) (sym whole) (first_is a (c.loop-more.more + 1) r.0 i.none first)

pub loop-more-preserved : goal.loop-more-preserved
loop-more-preserved c =
    let a = c.args.aim.now in
    let i = c.loop-more.invariant in
    let here = subst (λ (xs : List ℕ). NoRest a (c.loop-more.more + 1) xs) i.empty (c.push_rest.ensures.none c.if-push_rest.false) in
    record {
      none = λ k l. elim (same_or_not k (c.loop-more.more + 1)) [ inl e ↦ subst (λ (j : ℕ). NoRest a j []) (sym e) here | inr n ↦ i.none k (omega (arith, l, n)) ];
      empty = c.push_rest.ensures.unchanged c.if-push_rest.false ∙ i.empty;
    }

pub unreachable-requires : goal.unreachable-requires
unreachable-requires c =
    let a = c.args.aim.now in
    let every : c.len-n.result ≡ length a.choice.now.operations = omega (arith, ap (λ (r : RawChoice). length r.operations) c.choice.view_is, c.len-n.ensures.value) in
    none_at_all a (λ k l. c.loop-more.invariant.none k (omega (arith, l, every, c.loop-more-test.false))) c.requires.some
