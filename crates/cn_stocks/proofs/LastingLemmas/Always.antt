-- A type is n-discerning for every n exactly where some operations last.
use Rattle.std.proofs.Common.{◌≡◌, ◌≢◌, ℕ, zero, suc, ◌+◌, ◌*◌, ◌<◌, ◌≤◌, ◌⊎◌, inl, inr, List, ◌∷◌, ◌++◌, length, refl, sym, ap, ◌∙◌, subst, arith, Bool, true, false, nat_eq, true≢false}
use Rattle.std.specs.Prelude.{replicate}
use Rattle.std.proofs.lemmas.Bool.{eqb-true, eq-eqb, ne_eqb}
use Rattle.cn_outcomes.proofs.Packing.{below_or_last}
use Rattle.cn_table.specs.TypeTable.{TypeTable}
use Rattle.cn_choice.specs.Discerning.{IsDiscerning}
use Rattle.cn_stocks.specs.Splits.{AreJoined, StockSplits}
use Rattle.cn_stocks.specs.Words.{IsKnown, IsWithin, Shows, times}
use Rattle.cn_stocks.proofs.Steps.{shows_first}
use Rattle.cn_stocks.proofs.Times.{one_some, same_or, times_at}
use Rattle.cn_stocks.proofs.Witnesses.{to_splits, to_witness}
use Rattle.cn_stocks.specs.Lasting.{NoneLast, EndsAt, IsAlwaysDiscerning, Lasts, single_and}
use Rattle.cn_stocks.proofs.LastingLemmas.Forms.{joined, not_joined}
use Rattle.cn_stocks.proofs.LastingLemmas.Counts.{length_same, stands_often, times_other, times_same, times_stock, within_more, within_stock}

-- ---- from operations that last

module _ (t : TypeTable) (start many single : ℕ) (l : Lasts t start many single) where
  in_stock : (k x : ℕ) → 1 ≤ times x (single_and single many k) → (x ≡ many) ⊎ (x ≡ single)
  in_stock k x some = elim (same_or many x) [
    | inl e ↦ inl (sym e)
    | inr n ↦ inr (sym (one_some x single (omega (arith, some, times_stock x single many k, times_other x many k n))))
  ]

  splits : (k : ℕ) → StockSplits t start (single_and single many (suc k))
  splits k = record {
    chosen = λ f. nat_eq f many;
    inside = (many, omega (arith, times_stock many single many (suc k), times_same many (suc k)), eq-eqb many many refl);
    outside = (single, times_at single (replicate (suc k) many), ne_eqb single many (λ e. l.different (sym e)));
    apart = λ f g yes no joined.
        let f_is : f ≡ many = eqb-true f many yes in
        let g_is : g ≡ single = elim (in_stock (suc k) g (shows_first t start (single_and single many (suc k)) g joined.0 joined.1 joined.2 joined.4)) [
          | inl e ↦ absurd (true≢false (sym (eq-eqb g many e) ∙ no))
          | inr e ↦ e
        ] in
        not_joined many single l.different t start l.apart (suc k) (
          joined.0,
          joined.1,
          joined.2,
          subst (λ (x : ℕ). Shows t start (single_and single many (suc k)) x joined.0 joined.1 joined.2) f_is joined.3,
          subst (λ (x : ℕ). Shows t start (single_and single many (suc k)) x joined.0 joined.1 joined.2) g_is joined.4,
        );
  }

  known : (k : ℕ) → IsKnown (length t.operations) (single_and single many k)
  known k x some = elim (in_stock k x some) [
    | inl e ↦ omega (arith, e, l.many_known)
    | inr e ↦ omega (arith, e, l.single_known)
  ]

  of_size : (k : ℕ) → IsDiscerning t (suc (suc k))
  of_size k = to_witness t (suc (suc k)) (start, l.start_known, (single_and single many (suc k), known (suc k), omega (arith, length_same (suc k) many), splits k))

  pub always : IsAlwaysDiscerning t
  always zero h = absurd (omega (arith, h))
  always (suc zero) h = absurd (omega (arith, h))
  always (suc (suc k)) h = of_size k

-- ---- to operations that last

-- where what holds for one number holds for each greater one, one number does for all below the bound
bounded : (end : ℕ) (P : ℕ → ℕ → Type 0) → ((i k l : ℕ) → k ≤ l → P i k → P i l) → ((i : ℕ) → i < end → (k : ℕ) × P i k) → (k : ℕ) × ((i : ℕ) → i < end → P i k)
bounded zero P up each = (0, λ i l. absurd (omega (arith, l)))
bounded (suc end) P up each =
    let before = bounded end P up (λ i l. each i (omega (arith, l))) in
    let last = each end (omega arith) in (
      before.0 + last.0,
      λ i l. elim (below_or_last i end (omega (arith, l))) [
        | inl h ↦ up i before.0 (before.0 + last.0) (omega arith) (before.1 i h)
        | inr e ↦ subst (λ (j : ℕ). P j (before.0 + last.0)) (sym e) (up end last.0 (before.0 + last.0) (omega arith) last.1)
      ],
    )

module _ (t : TypeTable) (start : ℕ) where
  shows_more : (small stock : List ℕ) (f o r q : ℕ) → ((word : List ℕ) → IsWithin small word → IsWithin stock word) → Shows t start small f o r q → Shows t start stock f o r q
  shows_more small stock f o r q more s = record {
    before = s.before;
    after = s.after;
    within = more (s.before ++ o ∷ s.after) s.within;
    begins = s.begins;
    answer = s.answer;
    ends = s.ends;
  }

  pub joined_more : (small stock : List ℕ) (f g : ℕ) → ((word : List ℕ) → IsWithin small word → IsWithin stock word) → AreJoined t start small f g → AreJoined t start stock f g
  joined_more small stock f g more j = (j.0, j.1, j.2, shows_more small stock f j.0 j.1 j.2 more j.3, shows_more small stock g j.0 j.1 j.2 more j.4)

  pub ends_later : (many single k l : ℕ) → k ≤ l → EndsAt t start many single k → EndsAt t start many single l
  ends_later many single k l h j = joined_more (single_and single many k) (single_and single many l) many single (λ word w. within_more single many k l word h w) j

  -- a stock with so many of the one and some of the other does not keep them apart
  ends_stock : (many single k : ℕ) (stock : List ℕ) → many ≢ single → k ≤ times many stock → 1 ≤ times single stock → EndsAt t start many single k → AreJoined t start stock many single
  ends_stock many single k stock d enough some j = joined_more (single_and single many k) stock many single (λ word w. within_stock single many k stock word d enough some w) j

  -- where each two operations end at k, a long stock does not split
  no_splits : (k : ℕ) (stock : List ℕ) → IsKnown (length t.operations) stock → length t.operations * k < length stock
      → ((many : ℕ) → many < length t.operations → (single : ℕ) → single < length t.operations → many ≢ single → EndsAt t start many single (k + 1)) → ¬ StockSplits t start stock
  no_splits k stock known long ends s = by_part (s.chosen o.0) refl
    where
      o : (o : ℕ) × (o < length t.operations) × (k < times o stock)
      o = stands_often (length t.operations) k stock known long

      joined : (p : ℕ) → 1 ≤ times p stock → o.0 ≢ p → AreJoined t start stock o.0 p
      joined p some d = ends_stock o.0 p (k + 1) stock d (omega (arith, o.2)) some (ends o.0 o.1 p (known p some) d)

      by_part : (b : Bool) → s.chosen o.0 ≡ b → ⊥
      by_part true e =
          let p = s.outside in
          s.apart o.0 p.0 e p.2 (joined p.0 p.1 (λ same. true≢false (sym e ∙ (ap s.chosen same ∙ p.2))))
      by_part false e =
          let p = s.inside in
          let j = joined p.0 p.1 (λ same. true≢false (sym (sym e ∙ (ap s.chosen same ∙ p.2)))) in
          s.apart p.0 o.0 p.2 e (j.0, j.1, j.2, j.4, j.3)

module _ (t : TypeTable) (all : NoneLast t) where
  -- some number does for all
  at_once : (k : ℕ) × ((start : ℕ) → start < length t.states → (many : ℕ) → many < length t.operations → (single : ℕ) → single < length t.operations → many ≢ single → EndsAt t start many single k)
  at_once =
      bounded (length t.states) (λ start k. (many : ℕ) → many < length t.operations → (single : ℕ) → single < length t.operations → many ≢ single → EndsAt t start many single k)
      (λ start k l h f many lo single lp d. ends_later t start many single k l h (f many lo single lp d))
      (λ start ls. bounded (length t.operations) (λ many k. (single : ℕ) → single < length t.operations → many ≢ single → EndsAt t start many single k)
      (λ many k l h f single lp d. ends_later t start many single k l h (f single lp d))
      (λ many lo. bounded (length t.operations) (λ single k. many ≢ single → EndsAt t start many single k)
      (λ single k l h f d. ends_later t start many single k l h (f d))
      (λ single lp. by_same start ls many lo single lp (same_or many single))))
    where
      by_same : (start : ℕ) → start < length t.states → (many : ℕ) → many < length t.operations → (single : ℕ) → single < length t.operations → (many ≡ single) ⊎ (many ≢ single)
          → (k : ℕ) × (many ≢ single → EndsAt t start many single k)
      by_same start ls many lo single lp (inl e) = (0, λ d. absurd (d e))
      by_same start ls many lo single lp (inr d) = let r = joined many single d t start (all start ls many lo single lp d) in (r.0, λ _. r.1)

  pub never : (n : ℕ) × (2 ≤ n) × ¬ IsDiscerning t n
  never =
      let k = at_once in
      let n = length t.operations * k.0 + 3 in (
        n,
        omega arith,
        λ d.
            let s = to_splits t n (omega arith) d in
            no_splits t s.0 k.0 s.2.0 s.2.1 (omega (arith, s.2.2)) (λ many lo single lp d. ends_later t s.0 many single k.0 (k.0 + 1) (omega arith) (k.1 s.0 s.1 many lo single lp d)) s.2.3,
      )
