use Rattle.std.proofs.Common.{Bool, true, false, not, true≢false, ap, sym, ◌∙◌, ◌≢◌, ◌≡◌, ◌≤◌, ◌<◌, ℕ, inl, inr, arith}
use Rattle.std.specs.Prelude.{eqb}
use Rattle.std.proofs.lemmas.Bool.{eqb-true, eq-eqb, not-false}
use Rattle.cn_unread.specs.Signs.Leads.{Here}
use Rattle.cn_signs.proofs.Sets.{part_below, small}
use Rattle.cn_signs.proofs.Walks.{led_exact, led_on}
use Rattle.cn_signs.proofs.states.closure.Goals as goal

are_same : (a b : ℕ) (r : Bool) → r ≡ not (eqb a b) → r ≡ false → a ≡ b
are_same a b r e f = eqb-true a b (not-false (eqb a b) (sym e ∙ f))

differ : (a b : ℕ) (r : Bool) → r ≡ not (eqb a b) → r ≡ true → a ≢ b
differ a b r e f same = true≢false (sym f ∙ (e ∙ ap not (eq-eqb a b same)))

pub loop-set-init : goal.loop-set-init
loop-set-init c = record {
  has = λ q h. h;
  led = λ q h. (q, h, Here);
  known = c.requires.known;
  grown = c.grown-next.ensures.same;
  next_known = c.grown-next.ensures.known;
}

pub loop-set-smaller : goal.loop-set-smaller
loop-set-smaller c =
    let i = c.loop-set.invariant in
    let above : c.loop-set.set ≤ c.loop-set.next = part_below c.loop-set.set c.loop-set.next (λ q h. (i.grown q).1 (inl h)) in
    let few : c.loop-set.next < 65536 = small c.loop-set.next (λ q h. omega (arith, i.next_known q h, c.tables_are_valid.ensures.states.1)) in
    omega (arith, above, few, differ c.loop-set.next c.loop-set.set c.ne.result c.ne.ensures c.loop-set-test.true)

pub loop-set-preserved : goal.loop-set-preserved
loop-set-preserved c =
    let i = c.loop-set.invariant in record {
      has = λ q h. (i.grown q).1 (inl (i.has q h));
      led = λ q h. elim ((i.grown q).0 h) [ inl s ↦ i.led q s | inr m ↦ led_on c.args.table.now c.args.many.0 c.args.further.now c.args.from c.loop-set.set q i.led m ];
      known = i.next_known;
      grown = c.grown-next-in-loop-set.ensures.same;
      next_known = c.grown-next-in-loop-set.ensures.known;
    }

pub returns-clause-same : goal.returns-clause-same
returns-clause-same c =
    let i = c.loop-set.invariant in
    led_exact c.args.table.now c.args.many.0 c.args.further.now c.args.from c.loop-set.set c.loop-set.next i.has i.led i.grown
    (are_same c.loop-set.next c.loop-set.set c.ne.result c.ne.ensures c.loop-set-test.false)
