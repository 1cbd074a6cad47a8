-- A way to go on is a word within the stock of the processes that have not moved, and each such word is one.
use Rattle.std.proofs.Common.{◌≡◌, ◌≢◌, ℕ, suc, ◌+◌, ◌-◌, ◌^◌, ◌<◌, ◌≤◌, inl, inr, List, [], ◌∷◌, ◌++◌, length, length-append, map, get_or, refl, sym, ap, ◌∙◌, subst, arith, Some, None}
use Rattle.std.specs.Prelude.{IsBitSet, slice_index}
use Rattle.std.specs.Int.Bits.{bit_or}
use Rattle.std.specs.List.{range_with_len, remove}
use Rattle.std.proofs.lemmas.Option.{same_Some}
use Rattle.std.proofs.lemmas.List.{length-map, map-append}
use Rattle.std.proofs.lemmas.List.FromFn.{length-range_with_len, get_or-range_with_len}
use Rattle.cn_table.specs.TypeTable.{TypeTable, transition}
use Rattle.cn_table.specs.Run.{state_after}
use Rattle.cn_choice.specs.OutcomeSets.{operations_of}
use Rattle.cn_choice.specs.RawChoices.{RawChoice}
use Rattle.cn_choice.proofs.ListLemmas.Arrangements.{Differ, IsTaken, differ_taken, taken_known}
use Rattle.cn_choice.proofs.OrderLemmas.AllOrders.{differ_from, distinct_from}
use Rattle.cn_choice.proofs.ListLemmas.Members.{Contains-from_IsIn, IsIn, IsIn-append_cases, IsIn-append_left, IsIn-append_right, IsIn-from_Contains, IsIn-remove, IsIn-remove_cases, Pairs-remove, Pairs-weaker, each_at, each_from, gone, place_of}
use Rattle.cn_choice.proofs.ListLemmas.Permutations.{in_range, range_in, range_rises}
use Rattle.cn_outcomes.proofs.BitSets.{pow_set, union_set}
use Rattle.cn_outcomes.proofs.LastProcess.{zero_has_none}
use Rattle.cn_stocks.specs.Words.{HaveSame, IsWithin, times}
use Rattle.cn_stocks.proofs.Times.{one, one_at, times_cons, within_same}
use Rattle.cn_stocks.proofs.WordOrders.{differ_spread, map_parts, response_at, response_seen, spread_in, taken_within, times_remove, to_taken, whole}
use Rattle.cn_collisions.specs.Exact.{EndsAfter, ShowsAfter}
use Rattle.cn_collisions.specs.Rests.{IsRest}
use Rattle.cn_collisions.specs.Ways.{WayTo}
use Rattle.cn_collisions.proofs.FirstOrders.{ends_from, ends_to, fresh_from, fresh_to}
use Rattle.cn_collisions.proofs.WayLemmas.{in_pow}

-- ---- lists that differ

-- what is taken out of a list whose numbers differ
apart_taken : (xs free : List ℕ) → Differ free → IsTaken free xs → Differ xs
apart_taken [] free d h = tt
apart_taken (x ∷ xs) free d h = (
  each_from (λ y. x ≢ y) xs (λ y i e. gone (λ x y. x ≢ y) free h.0 0 (λ x n. n refl) d h.1
      (subst (λ (z : ℕ). IsIn z (remove free h.0)) (sym (h.2 ∙ e)) (taken_known xs (remove free h.0) y h.3 i))),
  apart_taken xs (remove free h.0) (Pairs-remove (λ x y. x ≢ y) free h.0 d) h.3,
)

-- a list without one of its numbers
differ_without : (j : ℕ) (ys zs : List ℕ) → Differ (ys ++ j ∷ zs) → Differ (ys ++ zs) × ((p : ℕ) → IsIn p (ys ++ zs) → p ≢ j)
differ_without j [] zs d = (d.1, λ p i e. each_at (λ x. j ≢ x) zs p d.0 i (sym e))
differ_without j (y ∷ ys) zs d =
    let later = differ_without j ys zs d.1 in (
      (
        each_from (λ x. y ≢ x) (ys ++ zs) (λ x i. each_at (λ x. y ≢ x) (ys ++ j ∷ zs) x d.0 (wider x i)),
        later.0,
      ),
      λ p i e. elim i [
        | inl same ↦ each_at (λ x. y ≢ x) (ys ++ j ∷ zs) j d.0 (IsIn-append_right j ys (j ∷ zs) (inl refl)) (same ∙ e)
        | inr k ↦ later.1 p k e
      ],
    )
  where
    wider : (x : ℕ) → IsIn x (ys ++ zs) → IsIn x (ys ++ j ∷ zs)
    wider x i = elim (IsIn-append_cases x ys zs i) [ inl a ↦ IsIn-append_left x ys (j ∷ zs) a | inr b ↦ IsIn-append_right x ys (j ∷ zs) (inr b) ]

in_spread : (p j : ℕ) (ys zs : List ℕ) → IsIn p (ys ++ zs) → IsIn p (ys ++ j ∷ zs)
in_spread p j ys zs i = elim (IsIn-append_cases p ys zs i) [ inl a ↦ IsIn-append_left p ys (j ∷ zs) a | inr b ↦ IsIn-append_right p ys (j ∷ zs) (inr b) ]

module _ (c : RawChoice) (j : ℕ) where
  abbrev op : ℕ → ℕ
  op p = slice_index c.operations p

  in_free : (used : ℕ) (stock : List ℕ) (r : IsRest c j used stock) (p : ℕ) → p < length c.operations → ¬ IsBitSet used p → p ≢ j → IsIn p r.free
  in_free used stock r p l n m = IsIn-from_Contains p r.free ((r.are p).1 (l, n, m))

  of_free : (used : ℕ) (stock : List ℕ) (r : IsRest c j used stock) (p : ℕ) → IsIn p r.free → (p < length c.operations) × ¬ IsBitSet used p × (p ≢ j)
  of_free used stock r p i = (r.are p).0 (Contains-from_IsIn p r.free i)

  -- ---- the stock of the processes that have not moved

  -- at first
  pub rest_first : (stock : List ℕ) → j < length c.operations → HaveSame c.operations (op j ∷ stock) → IsRest c j 0 stock
  rest_first stock l same =
      let n = length c.operations in
      let range = range_with_len 0 n in
      let long : j < length range = omega (arith, l, length-range_with_len 0 n) in
      let at : get_or range j 0 ≡ j = get_or-range_with_len 0 n j 0 l ∙ omega arith in
      let rises = range_rises 0 n in
      let differ : Differ range = Pairs-weaker (λ x y. x < y) (λ x y. x ≢ y) range (λ x y i k b e. absurd (omega (arith, b, e))) rises in
      record {
        free = remove range j;
        distinct = distinct_from (remove range j) (Pairs-remove (λ x y. x ≢ y) range j differ);
        are = λ p. (
          λ h.
              let i = IsIn-from_Contains p (remove range j) h in (
                (let b = in_range 0 n p (IsIn-remove p range j i) in omega (arith, b.1)),
                zero_has_none p,
                λ e. gone (λ x y. x ≢ y) range j 0 (λ x n. n refl) differ long (subst (λ (z : ℕ). IsIn z (remove range j)) (e ∙ sym at) i),
              ),
          λ h. Contains-from_IsIn p (remove range j) (elim (IsIn-remove_cases p range j 0 (range_in 0 n p (omega arith) (omega (arith, h.0)))) [
            | inl e ↦ absurd (h.2 (sym e ∙ at))
            | inr i ↦ i
          ]),
        );
        same = λ o.
            let e : one o (op (get_or range j 0)) ≡ one o (op j) = ap (λ (p : ℕ). one o (op p)) at in
            let g : times o (map op range) ≡ times o c.operations = ap (times o) (whole c) in
            omega (arith, e, g, same o, times_cons o (op j) stock, times_remove op o range j long);
      }

  with_used : (used p q : ℕ) → ¬ IsBitSet (bit_or used (2 ^ p)) q → ¬ IsBitSet used q × (q ≢ p)
  with_used used p q n = (λ s. n ((union_set used (2 ^ p) q).1 (inl s)), λ e. n ((union_set used (2 ^ p) q).1 (inr (subst (IsBitSet (2 ^ p)) (sym e) (in_pow p)))))

  not_used : (used p q : ℕ) → ¬ IsBitSet used q → q ≢ p → ¬ IsBitSet (bit_or used (2 ^ p)) q
  not_used used p q n m s = elim ((union_set used (2 ^ p) q).0 s) [ inl u ↦ n u | inr b ↦ m (pow_set p q b) ]

  -- after a move of another process
  pub rest_other : (used p : ℕ) (stock rest : List ℕ) → IsRest c j used stock → p < length c.operations → ¬ IsBitSet used p → p ≢ j → HaveSame stock (op p ∷ rest)
      → IsRest c j (bit_or used (2 ^ p)) rest
  rest_other used p stock rest r l n m same =
      let place = place_of p r.free 0 (in_free used stock r p l n m) in
      let d = place.0 in
      let differ = differ_from r.free r.distinct in
      record {
        free = remove r.free d;
        distinct = distinct_from (remove r.free d) (Pairs-remove (λ x y. x ≢ y) r.free d differ);
        are = λ q. (
          λ h.
              let i = IsIn-from_Contains q (remove r.free d) h in
              let b = of_free used stock r q (IsIn-remove q r.free d i) in
              (b.0, not_used used p q b.1 (λ e. gone (λ x y. x ≢ y) r.free d 0 (λ x n. n refl) differ place.1 (subst (λ (z : ℕ). IsIn z (remove r.free d)) (e ∙ sym place.2) i)), b.2),
          λ h.
              let u = with_used used p q h.1 in
              Contains-from_IsIn q (remove r.free d) (elim (IsIn-remove_cases q r.free d 0 (in_free used stock r q h.0 u.0 h.2)) [
                | inl e ↦ absurd (u.1 (sym e ∙ place.2))
                | inr i ↦ i
              ]),
        );
        same = λ o.
            let e : one o (op (get_or r.free d 0)) ≡ one o (op p) = ap (λ (x : ℕ). one o (op x)) place.2 in
            omega (arith, e, r.same o, same o, times_cons o (op p) rest, times_remove op o r.free d place.1);
      }

  -- after the move of j
  pub rest_own : (used : ℕ) (stock : List ℕ) → IsRest c j used stock → IsRest c j (bit_or used (2 ^ j)) stock
  rest_own used stock r = record {
    free = r.free;
    distinct = r.distinct;
    are = λ q. (
      λ h. (let b = (r.are q).0 h in (b.0, not_used used j q b.1 b.2, b.2)),
      λ h. (r.are q).1 (h.0, (with_used used j q h.1).0, h.2),
    );
    same = r.same;
  }

  -- the operation of a process that has not moved stands in the stock
  pub rest_has : (used p : ℕ) (stock : List ℕ) → IsRest c j used stock → p < length c.operations → ¬ IsBitSet used p → p ≢ j → 1 ≤ times (op p) stock
  rest_has used p stock r l n m =
      let place = place_of p r.free 0 (in_free used stock r p l n m) in
      let e : one (op p) (op (get_or r.free place.0 0)) ≡ one (op p) (op p) = ap (λ (x : ℕ). one (op p) (op x)) place.2 in
      omega (arith, e, one_at (op p), r.same (op p), times_remove op (op p) r.free place.0 place.1)

  -- ---- ways and words

  module _ (t : TypeTable) (used state : ℕ) (stock : List ℕ) (rest : IsRest c j used stock) where
    -- j has moved
    module _ (moved : IsBitSet used j) (s : ℕ) where
      pub way_ends : (size response last : ℕ) → WayTo t c j size used state (Some s) response last → (s ≡ response) × EndsAfter t state stock size last
      way_ends size response last w =
          let x = w.0 in
          let f = fresh_to (length c.operations) used x w.2 in
          let e = ends_to t c j state (Some s) x (response, last) w.3 in
          let taken = differ_taken x rest.free f.1
          (λ p i. in_free used stock rest p (each_at (λ p. p < length c.operations) x p f.0 i) (f.2 p i) (λ g. f.2 p i (subst (IsBitSet used) (sym g) moved))) in
          (same_Some s response e.0, (operations_of c x, within_same (operations_of c rest.free) stock (operations_of c x) rest.same (taken_within op x rest.free taken), length-map x op ∙ w.1, e.1))

      pub ends_way : (size response last : ℕ) → s ≡ response → EndsAfter t state stock size last → WayTo t c j size used state (Some s) response last
      ends_way size response last same e =
          let word = e.0 in
          let taken = to_taken op word rest.free (λ o. omega (arith, e.1 o, rest.same o)) in
          let x = taken.0 in
          let fresh = fresh_from (length c.operations) used x
          (each_from (λ p. p < length c.operations) x (λ p i. (of_free used stock rest p (taken_known x rest.free p taken.1 i)).0))
          (apart_taken x rest.free (differ_from rest.free rest.distinct) taken.1)
          (λ p i. (of_free used stock rest p (taken_known x rest.free p taken.1 i)).1) in
          (x, sym (length-map x op) ∙ (ap length taken.2 ∙ e.2), fresh, ends_from t c j state (Some s) x (response, last) (ap Some same) (ap (λ (w : List ℕ). state_after t state w) taken.2 ∙ e.3))

    -- j has not moved
    module _ (still : ¬ IsBitSet used j) (inside : j < length c.operations) where
      pub way_shows : (size response last : ℕ) → WayTo t c j size used state None response last → (1 ≤ size) × ShowsAfter t state stock (op j) (size - 1) response last
      way_shows size response last w =
          let x = w.0 in
          let f = fresh_to (length c.operations) used x w.2 in
          let e = ends_to t c j state None x (response, last) w.3 in
          let r = response_seen c t j state x response e.0 in
          let ys = r.0 in
          let zs = r.1 in
          let long : length ys + suc (length zs) ≡ size = sym (length-append ys (j ∷ zs)) ∙ (sym (ap length r.2) ∙ w.1) in
          let differ = differ_without j ys zs (subst Differ r.2 f.1) in
          let member : (p : ℕ) → IsIn p (ys ++ zs) → IsIn p x = λ p i. subst (λ (l : List ℕ). IsIn p l) (sym r.2) (in_spread p j ys zs i) in
          let taken = differ_taken (ys ++ zs) rest.free differ.0
          (λ p i. in_free used stock rest p (each_at (λ p. p < length c.operations) x p f.0 (member p i)) (f.2 p (member p i)) (differ.1 p i)) in
          let within = within_same (operations_of c rest.free) stock (operations_of c (ys ++ zs)) rest.same (taken_within op (ys ++ zs) rest.free taken) in (
            omega (arith, long),
            record {
              before = operations_of c ys;
              after = operations_of c zs;
              within = subst (λ (word : List ℕ). IsWithin stock word) (map-append op ys zs) within;
              long = omega (arith, length-map ys op, length-map zs op, long);
              answer = r.3;
              ends = ap (λ (word : List ℕ). state_after t state word) (sym (map-append op ys (j ∷ zs))) ∙ (ap (λ (l : List ℕ). state_after t state (operations_of c l)) (sym r.2) ∙ e.1);
            },
          )

      pub shows_way : (size response last : ℕ) → 1 ≤ size → ShowsAfter t state stock (op j) (size - 1) response last → WayTo t c j size used state None response last
      shows_way size response last some s =
          let taken = to_taken op (s.before ++ s.after) rest.free (λ o. omega (arith, s.within o, rest.same o)) in
          let parts = map_parts op s.before s.after taken.0 taken.2 in
          let ys = parts.0 in
          let zs = parts.1 in
          let differ : Differ (ys ++ zs) = subst Differ parts.2 (apart_taken taken.0 rest.free (differ_from rest.free rest.distinct) taken.1) in
          let known : (p : ℕ) → IsIn p (ys ++ zs) → (p < length c.operations) × ¬ IsBitSet used p × (p ≢ j) = λ p i.
          of_free used stock rest p (taken_known taken.0 rest.free p taken.1 (subst (λ (l : List ℕ). IsIn p l) (sym parts.2) i)) in
          let spread = differ_spread j ys zs (each_from (λ p. j ≢ p) (ys ++ zs) (λ p i e. (known p i).2 (sym e)), differ) in
          let x = ys ++ j ∷ zs in
          let fresh = fresh_from (length c.operations) used x
          (each_from (λ p. p < length c.operations) x (λ p i. elim (spread_in p j ys zs i) [ inl e ↦ subst (λ (q : ℕ). q < length c.operations) e inside | inr k ↦ (known p k).0 ]))
          spread.0
          (λ p i. elim (spread_in p j ys zs i) [ inl e ↦ subst (λ (q : ℕ). ¬ IsBitSet used q) e still | inr k ↦ (known p k).1 ]) in (
            x,
            omega (arith, length-append ys (j ∷ zs), length-map ys op, length-map zs op, ap length parts.3, ap length parts.4, s.long, some),
            fresh,
            ends_from t c j state None x (response, last)
                (response_at c t j state ys zs spread.1 ∙ ap Some (ap (λ (word : List ℕ). (transition t (op j) (state_after t state word)).0) parts.3 ∙ s.answer))
                (both ys zs s.before s.after parts.3 parts.4 ∙ s.ends),
          )
        where
          both : (ys zs before after : List ℕ) → operations_of c ys ≡ before → operations_of c zs ≡ after
              → state_after t state (operations_of c (ys ++ j ∷ zs)) ≡ state_after t state (before ++ op j ∷ after)
          both ys zs before after e g =
              ap (λ (word : List ℕ). state_after t state word) (map-append op ys (j ∷ zs)) ∙ rw (e, g) refl
