use Rattle.std.proofs.Common.{Bool, true, false, not, true≢false, ap, sym, ◌∙◌, ◌≢◌, ◌≡◌, ◌≤◌, ℕ, inl, inr, arith, refl, subst}
use Rattle.std.proofs.lemmas.Bool.{eqb-true, eq-eqb}
use Rattle.std.specs.Prelude.{IsBitSet, eqb}
use Rattle.cn_stocks.proofs.LastingLemmas.SetSizes.{small_set, union_above}
use Rattle.cn_table.specs.TypeTable.{transition}
use Rattle.cn_stocks.proofs.LastingLemmas.Closing.{all_onward, onward_more}
use Rattle.cn_stock_find.proofs.lasting.onward.Goals as goal

is_true : (b : Bool) → not b ≡ false → b ≡ true
is_true true f = refl
is_true false f = absurd (true≢false f)

are_same : (a b : ℕ) (r : Bool) → r ≡ not (eqb a b) → r ≡ false → a ≡ b
are_same a b r e f = eqb-true a b (is_true (eqb a b) (sym e ∙ f))

differ : (a b : ℕ) (r : Bool) → r ≡ not (eqb a b) → r ≡ true → a ≢ b
differ a b r e t same = true≢false (sym t ∙ (e ∙ ap not (eq-eqb a b same)))

pub loop-set-smaller : goal.loop-set-smaller
loop-set-smaller c =
    let above : c.loop-set.set ≤ c.loop-set.grown = union_above c.loop-set.set c.loop-set.grown c.loop-set.grown
    (λ q. (λ g. inr g, λ h. elim h [ inl s ↦ (c.loop-set.invariant.next q).1 (inl s) | inr g ↦ g ])) in
    omega (
      arith,
      above,
      differ c.loop-set.grown c.loop-set.set c.ne.result c.ne.ensures c.loop-set-test.true,
      small_set c.loop-set.grown (λ q g. omega (arith, c.loop-set.invariant.grown_known q g, c.states-states.ensures.number, c.states-states.ensures.range.1)),
    )

pub loop-set-preserved : goal.loop-set-preserved
loop-set-preserved c =
    let i = c.loop-set.invariant in record {
      has = λ q f. (i.next q).1 (inl (i.has q f));
      led = λ q g. elim ((i.next q).0 g) [ inl s ↦ i.led q s | inr m ↦ onward_more c.args.table.now c.args.many.0 (IsBitSet c.args.from) m.0 q (i.led m.0 m.1) m.2 ];
      known = i.grown_known;
      next = λ q. (
        λ u. elim ((c.union-grown-in-loop-set.ensures q).0 u) [ inl g ↦ inl g | inr m ↦ inr ((c.image-in-loop-set.ensures.same q).0 m) ],
        λ h. (c.union-grown-in-loop-set.ensures q).1 (elim h [ inl g ↦ inl g | inr m ↦ inr ((c.image-in-loop-set.ensures.same q).1 m) ]),
      );
      grown_known = λ q u. elim ((c.union-grown-in-loop-set.ensures q).0 u) [ inl g ↦ i.grown_known q g | inr m ↦ c.image-in-loop-set.ensures.known q m ];
    }

pub returns-clause-same : goal.returns-clause-same
returns-clause-same c q =
    let i = c.loop-set.invariant in
    let same : c.loop-set.grown ≡ c.loop-set.set = are_same c.loop-set.grown c.loop-set.set c.ne.result c.ne.ensures c.loop-set-test.false in (
      i.led q,
      all_onward c.args.table.now c.args.many.0 (IsBitSet c.loop-set.set) (IsBitSet c.args.from) i.has
          (λ found s. subst (λ (set : ℕ). IsBitSet set (transition c.args.table.now c.args.many.0 found).1) same ((i.next (transition c.args.table.now c.args.many.0 found).1).1 (inr (found, s, refl)))) q,
    )
