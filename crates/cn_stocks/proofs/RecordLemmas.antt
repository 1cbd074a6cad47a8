-- Whether a stock records, by the states that words leave which begin with each of its operations.
use Rattle.std.proofs.Common.{◌≡◌, ◌≢◌, ℕ, ◌≤◌, inl, inr, List, [], ◌∷◌, refl, sym, ap, ◌∙◌, subst, arith, true, false, not, nat_eq, true≢false}
use Rattle.std.proofs.lemmas.Bool.{eqb-true, eq-eqb, ne_eqb}
use Rattle.cn_table.specs.TypeTable.{TypeTable, transition}
use Rattle.cn_stocks.specs.Meetings.{AreLeft, FallApart, HasAt, IsSingle}
use Rattle.cn_stocks.specs.Records.{HasTwoOf, Records}
use Rattle.cn_stocks.specs.Words.{IsWithin, times}
use Rattle.cn_stocks.proofs.SplitLemmas.{either, not_false, not_no, not_true}
use Rattle.cn_stocks.proofs.StockLemmas.{before_or_behind}
use Rattle.cn_stocks.proofs.Steps.{left_first}
use Rattle.cn_stocks.proofs.Times.{one_else, one_of, same_or, times_cons, times_none}

-- with the parts exchanged
other_records : (t : TypeTable) (start : ℕ) (stock : List ℕ) → Records t start stock → Records t start stock
other_records t start stock r = record {
  chosen = λ f. not (r.chosen f);
  inside = (r.outside.0, r.outside.1, not_true (r.chosen r.outside.0) r.outside.2);
  outside = (r.inside.0, r.inside.1, ap not r.inside.2);
  apart = λ f g q picked left_out x y. r.apart g f q (not_no (r.chosen g) left_out) (not_false (r.chosen f) picked) y x;
  no_way_back_inside = λ two f picked x. r.no_way_back_outside (two.0, two.1, two.2, not_no (r.chosen two.0) two.3, not_no (r.chosen two.1) two.4) f (not_false (r.chosen f) picked) x;
  no_way_back_outside = λ two g left_out x. r.no_way_back_inside (two.0, two.1, two.2, not_false (r.chosen two.0) two.3, not_false (r.chosen two.1) two.4) g (not_no (r.chosen g) left_out) x;
}

-- two operations of a stock as a word
twice_within : (g : ℕ) (stock : List ℕ) → 2 ≤ times g stock → IsWithin stock (g ∷ g ∷ [])
twice_within g stock l o = elim (same_or g o) [
  | inl e ↦ (let h : times o stock ≡ times g stock = ap (λ (x : ℕ). times x stock) (sym e) in omega (arith, l, h, times_cons o g (g ∷ []), times_cons o g [], times_none o, one_of o g e))
  | inr n ↦ omega (arith, times_cons o g (g ∷ []), times_cons o g [], times_none o, one_else o g n)
]

both_within : (g h : ℕ) (stock : List ℕ) → g ≢ h → 1 ≤ times g stock → 1 ≤ times h stock → IsWithin stock (g ∷ h ∷ [])
both_within g h stock n a b o = elim (same_or g o) [
  | inl e ↦ (
      let same : times o stock ≡ times g stock = ap (λ (x : ℕ). times x stock) (sym e) in
      let apart : h ≢ o = λ k. n (e ∙ sym k) in
      omega (arith, a, same, times_cons o g (h ∷ []), times_cons o h [], times_none o, one_of o g e, one_else o h apart)
      )
  | inr m ↦ elim (same_or h o) [
    | inl e ↦ (let same : times o stock ≡ times h stock = ap (λ (x : ℕ). times x stock) (sym e) in
        omega (arith, b, same, times_cons o g (h ∷ []), times_cons o h [], times_none o, one_else o g m, one_of o h e))
    | inr k ↦ omega (arith, times_cons o g (h ∷ []), times_cons o h [], times_none o, one_else o g m, one_else o h k)
  ]
]

alone_within : (f : ℕ) (stock : List ℕ) → 1 ≤ times f stock → IsWithin stock (f ∷ [])
alone_within f stock l o = elim (same_or f o) [
  | inl e ↦ (let same : times o stock ≡ times f stock = ap (λ (x : ℕ). times x stock) (sym e) in omega (arith, l, same, times_cons o f [], times_none o, one_of o f e))
  | inr n ↦ omega (arith, times_cons o f [], times_none o, one_else o f n)
]

module _ (t : TypeTable) (start : ℕ) (stock sets : List ℕ) (left : AreLeft t start stock sets) where
  -- an operation of the stock leaves some state
  pub some_left : (f : ℕ) → 1 ≤ times f stock → (q : ℕ) × HasAt sets f q
  some_left f l = ((transition t f start).1, (left f (transition t f start).1).1 ([], alone_within f stock l, refl))

  pub in_stock : (f q : ℕ) → HasAt sets f q → 1 ≤ times f stock
  in_stock f q h = left_first t start stock f q ((left f q).0 h)

  -- one operation as a part
  pub by_single : (f : ℕ) → IsSingle stock sets start f → Records t start stock
  by_single f s = record {
    chosen = λ x. nat_eq x f;
    inside = (f, omega (arith, s.once), eq-eqb f f refl);
    outside = (s.alone.other.0, in_stock s.alone.other.0 s.alone.other.2.0 s.alone.other.2.1, ne_eqb s.alone.other.0 f s.alone.other.1);
    apart = λ x g q picked left_out a b. s.alone.apart g q (unequal g left_out) ((left g q).1 b) (subst (λ (y : ℕ). HasAt sets y q) (eqb-true x f picked) ((left x q).1 a));
    no_way_back_inside = λ two x picked a. s.no_way_back (subst (λ (y : ℕ). HasAt sets y start) (eqb-true x f picked) ((left x start).1 a));
    no_way_back_outside = λ two g left_out b. absurd (never two);
  }
    where
      unequal : (g : ℕ) → nat_eq g f ≡ false → g ≢ f
      unequal g left_out e = true≢false (sym (eq-eqb g f e) ∙ left_out)

      never : HasTwoOf stock (λ x. nat_eq x f) true → ⊥
      never two =
          let a : two.0 ≡ f = eqb-true two.0 f two.3 in
          let b : two.1 ≡ f = eqb-true two.1 f two.4 in
          absurd (omega (arith, s.once, two.2 f, times_cons f two.0 (two.1 ∷ []), times_cons f two.1 [], times_none f, one_of f two.0 a, one_of f two.1 b))

  -- parts that have no way back
  pub by_parts : ((f : ℕ) → ¬ HasAt sets f start) → FallApart sets → Records t start stock
  by_parts none a = record {
    chosen = a.chosen;
    inside = (a.inside.0, in_stock a.inside.0 a.inside.2.0 a.inside.2.1, a.inside.1);
    outside = (a.outside.0, in_stock a.outside.0 a.outside.2.0 a.outside.2.1, a.outside.1);
    apart = λ f g q picked left_out x y. a.apart f g q picked left_out ((left f q).1 x) ((left g q).1 y);
    no_way_back_inside = λ two f picked x. none f ((left f start).1 x);
    no_way_back_outside = λ two g left_out x. none g ((left g start).1 x);
  }

  pub parts_of : Records t start stock → FallApart sets
  parts_of r = record {
    chosen = r.chosen;
    inside = (r.inside.0, r.inside.2, some_left r.inside.0 r.inside.1);
    outside = (r.outside.0, r.outside.2, some_left r.outside.0 r.outside.1);
    apart = λ f g q picked left_out x y. r.apart f g q picked left_out ((left f q).0 x) ((left g q).0 y);
  }

  -- where a word leaves the start state, the part that it does not begin in is one operation
  single_in : (r : Records t start stock) (k : ℕ) → r.chosen k ≡ true → HasAt sets k start → (f : ℕ) × IsSingle stock sets start f
  single_in r k sure h =
      let back = (left k start).0 h in
      let g = r.outside.0 in
      let no_two : HasTwoOf stock r.chosen false → ⊥ = λ two. r.no_way_back_inside two k sure back in
      let once : times g stock ≡ 1 = elim (before_or_behind 1 (times g stock)) [
        | inl l ↦ absurd (no_two (g, g, twice_within g stock (omega (arith, l)), r.outside.2, r.outside.2))
        | inr l ↦ omega (arith, l, r.outside.1)
      ] in
      let others : (x : ℕ) → 1 ≤ times x stock → x ≢ g → r.chosen x ≡ true = λ x l n. elim (either (r.chosen x)) [
        | inl picked ↦ picked
        | inr left_out ↦ absurd (no_two (x, g, both_within x g stock n l r.outside.1, left_out, r.outside.2))
      ] in (
        g,
        record {
          once = once;
          no_way_back = λ b. r.apart k g start sure r.outside.2 back ((left g start).0 b);
          alone = record {
            other = (r.inside.0, (λ e. true≢false (sym r.inside.2 ∙ (ap r.chosen e ∙ r.outside.2))), some_left r.inside.0 r.inside.1);
            apart = λ x q n a b. r.apart x g q (others x (in_stock x q a) n) r.outside.2 ((left x q).0 a) ((left g q).0 b);
          };
        },
      )

  pub single_of : Records t start stock → (k : ℕ) × HasAt sets k start → (f : ℕ) × IsSingle stock sets start f
  unfolding other_records
  single_of r k = elim (either (r.chosen k.0)) [
    | inl picked ↦ single_in r k.0 picked k.1
    | inr left_out ↦ single_in (other_records t start stock r) k.0 (not_true (r.chosen k.0) left_out) k.1
  ]
