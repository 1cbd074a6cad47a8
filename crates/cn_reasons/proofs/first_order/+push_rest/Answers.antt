use Rattle.std.proofs.Common.{◌≡◌, ◌∙◌, ◌+◌, ◌-◌, ◌<◌, ◌++◌, ◌∷◌, [], ℕ, List, append-nil, append_assoc, ap, arith, false, length, length-append, refl, subst, sym, true≢false}
use Rattle.cn_choice.specs.RawChoices.{RawChoice}
use Rattle.cn_reasons.specs.Beginnings.{IsBeginning, IsFirstRest, NoRest}
use Rattle.cn_reasons.specs.Onward.{EndsIn}
use Rattle.cn_reasons.proofs.RestLemmas.{begun_more, dead_here, dead_more, dead_passed, first_end, first_more, none_led, none_left, popped}
use Rattle.cn_reasons.proofs.first_order.+push_rest.Goals as goal

pub leads-requires-clause-count : goal.leads-requires-clause-count
leads-requires-clause-count t c = omega (arith, c.requires.room, c.requires.aim.few)

pub returns-then-not-leads-clause-none : goal.returns-then-not-leads-clause-none
returns-then-not-leads-clause-none t c _ =
    let a = c.args.aim.now in
    none_led a c.args.order.now.items c.args.used c.args.state.0 c.args.left c.requires.aim c.requires.beginning (λ h. true≢false (sym (c.leads.ensures.1 h) ∙ c.if-not-leads.true))

pub returns-then-left-eq0-clause-first : goal.returns-then-left-eq0-clause-first
returns-then-left-eq0-clause-first t c _ =
    let a = c.args.aim.now in
    let order = c.args.order.now.items in
    let none : c.args.left ≡ 0 = c.if-left-eq0.true in
    let ends = subst (λ (k : ℕ). EndsIn a.table.now c.args.state.0 k a.state.0) none (c.leads.ensures.0 c.if-not-leads.false) in (
      [],
      sym (append-nil order),
      subst (λ (k : ℕ). IsFirstRest a k order []) (sym none)
          (first_end a order c.args.used c.args.state.0 c.requires.beginning (λ e. absurd (omega (arith, c.requires.some e, none))) ends),
    )

pub push-requires : goal.push-requires
push-requires t c = omega (arith, ap (λ (xs : List ℕ). length xs) c.loop-process.invariant.same, c.requires.room, c.requires.aim.few, c.if-left-eq0.false)

pub push_rest-requires : goal.push_rest-requires
push_rest-requires t c =
    let a = c.args.aim.now in
    let p = c.loop-process.process in
    let every : c.len-n.result ≡ length a.choice.now.operations = omega (arith, ap (λ (r : RawChoice). length r.operations) c.choice.view_is, c.len-n.ensures.value) in
    let pushed = c.push.ensures.items ∙ ap (λ (xs : List ℕ). xs ++ p ∷ []) c.loop-process.invariant.same in
    let beginning = subst (λ (xs : List ℕ). IsBeginning a xs c.with.result c.next_state-next.result.0) (sym pushed)
    (begun_more a c.args.order.now.items c.args.used c.args.state.0 p c.with.result c.next_state-next.result.0 c.requires.beginning (omega (arith, c.loop-process-test.true, every))
    (c.if-not-is_tried.ensures.tried refl) c.with.ensures c.next_state-next.ensures.known c.next_state-next.ensures.next) in (
      omega (arith, c.if-left-eq0.false, c.decreases),
      (
        c.requires.aim,
        (
          beginning,
          (
            λ e. absurd (omega (arith, ap (λ (xs : List ℕ). length xs) e, c.push.ensures.len)),
            omega (arith, ap (λ (xs : List ℕ). length xs) c.loop-process.invariant.same, c.push.ensures.len, c.requires.room, c.if-left-eq0.false),
          ),
        ),
      ),
    )

pub returns-then-push_rest-clause-first : goal.returns-then-push_rest-clause-first
returns-then-push_rest-clause-first t c _ =
    let a = c.args.aim.now in
    let p = c.loop-process.process in
    let order = c.args.order.now.items in
    let pushed = c.push.ensures.items ∙ ap (λ (xs : List ℕ). xs ++ p ∷ []) c.loop-process.invariant.same in
    let r = c.push_rest.ensures.first c.if-push_rest.true in
    let first = subst (λ (xs : List ℕ). IsFirstRest a (c.args.left - 1) xs r.0) pushed r.2 in (
      p ∷ r.0,
      r.1 ∙ (ap (λ (xs : List ℕ). xs ++ r.0) pushed ∙ append_assoc order (p ∷ []) r.0),
      first_more a c.args.left order p r.0 (omega (arith, c.if-left-eq0.false)) c.loop-process.invariant.dead first,
    )

pub loop-process-preserved-then-not-is_tried : goal.loop-process-preserved-then-not-is_tried
loop-process-preserved-then-not-is_tried t c =
    let a = c.args.aim.now in
    let p = c.loop-process.process in
    let i = c.loop-process.invariant in
    let order = c.args.order.now.items in
    let here = dead_passed a c.args.left order c.args.used c.args.state.0 p c.requires.beginning (c.if-not-is_tried.ensures.passed refl) i.dead in
    record { same = i.same; dead = dead_more a c.args.left order p i.dead here }

pub loop-process-preserved : goal.loop-process-preserved
loop-process-preserved t c =
    let a = c.args.aim.now in
    let p = c.loop-process.process in
    let i = c.loop-process.invariant in
    let order = c.args.order.now.items in
    let pushed = c.push.ensures.items ∙ ap (λ (xs : List ℕ). xs ++ p ∷ []) i.same in
    let after = c.push_rest.ensures.unchanged c.if-push_rest.false ∙ pushed in
    let none = subst (λ (xs : List ℕ). NoRest a (c.args.left - 1) xs) pushed (c.push_rest.ensures.none c.if-push_rest.false) in
    record {
      same = popped order c.push_rest.new.order.items c.pop-process.new.self.items p after c.pop-process.ensures.rest;
      dead = dead_more a c.args.left order p i.dead (dead_here a c.args.left order p none);
    }

pub returns-clause-none : goal.returns-clause-none
returns-clause-none t c _ =
    let a = c.args.aim.now in
    let every : c.len-n.result ≡ length a.choice.now.operations = omega (arith, ap (λ (r : RawChoice). length r.operations) c.choice.view_is, c.len-n.ensures.value) in
    none_left a c.args.left c.args.order.now.items c.loop-process.process (omega (arith, c.if-left-eq0.false)) (omega (arith, c.loop-process-test.false, every)) c.loop-process.invariant.dead
