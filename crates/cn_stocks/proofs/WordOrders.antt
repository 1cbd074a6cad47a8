-- An order of processes is a word within the stock of their operations, and each such word is one, with any process that has the operation at a place.
use Rattle.std.proofs.Common.{◌≡◌, ◌≢◌, ℕ, zero, suc, ◌+◌, ◌<◌, ◌≤◌, inl, inr, List, [], ◌∷◌, ◌++◌, length, map, get_or, refl, sym, ap, ◌∙◌, subst, arith, Some, Bool, true, false, cond, nat_eq, append_assoc}
use Rattle.std.specs.Prelude.{slice_index}
use Rattle.std.specs.List.{range_with_len, remove}
use Rattle.std.proofs.Math.Seq.{get_or-append_seam}
use Rattle.std.proofs.lemmas.Bool.{eqb-true, eq-eqb, ne_eqb}
use Rattle.std.proofs.lemmas.Option.{same_Some}
use Rattle.std.proofs.lemmas.List.{map-append}
use Rattle.std.proofs.lemmas.List.Elements.{All-from_recursion, recursion_from_All}
use Rattle.std.proofs.lemmas.List.FromFn.{length-range_with_len, get_or-range_with_len}
use Rattle.cn_table.specs.TypeTable.{TypeTable, transition}
use Rattle.cn_table.specs.Run.{responses_along, state_after}
use Rattle.cn_choice.specs.Orders.{IsOrder}
use Rattle.cn_choice.specs.OutcomeSets.{operations_of, pair_of, response_of}
use Rattle.cn_choice.specs.RawChoices.{RawChoice}
use Rattle.cn_choice.proofs.ListLemmas.Arrangements.{Differ, IsTaken, differ_taken, taken_differ, taken_known}
use Rattle.cn_choice.proofs.OrderLemmas.AllOrders.{differ_from, distinct_from}
use Rattle.cn_choice.proofs.OrderLemmas.LastMoves.{pair_whole}
use Rattle.cn_choice.proofs.ListLemmas.Members.{IsIn, IsIn-append_cases, IsIn-append_left, IsIn-append_right, each_at, each_from}
use Rattle.cn_choice.proofs.ListLemmas.Permutations.{in_range, range_in, range_rises}
use Rattle.cn_stocks.specs.Words.{IsWithin, times}
use Rattle.cn_outcomes.proofs.LastAnswers.{pair_parts}
use Rattle.cn_stocks.proofs.Times.{one, one_of, times_append, times_between, times_cons, times_none}

-- ---- what is taken out of a list, by the values

pub times_remove : (f : ℕ → ℕ) (o : ℕ) (free : List ℕ) (d : ℕ) → d < length free → times o (map f free) ≡ one o (f (get_or free d 0)) + times o (map f (remove free d))
times_remove f o [] d l = absurd (omega arith)
times_remove f o (x ∷ free) zero l = times_cons o (f x) (map f free)
times_remove f o (x ∷ free) (suc d) l =
    omega (arith, times_cons o (f x) (map f free), times_cons o (f x) (map f (remove free d)), times_remove f o free d (omega arith))

pub taken_within : (f : ℕ → ℕ) (xs free : List ℕ) → IsTaken free xs → IsWithin (map f free) (map f xs)
taken_within f [] free h o = omega (arith, times_none o)
taken_within f (x ∷ xs) free h o =
    let e : times o (map f (x ∷ xs)) ≡ one o (f (get_or free h.0 0)) + times o (map f xs) = times_cons o (f x) (map f xs) ∙ ap (λ (y : ℕ). one o (f y) + times o (map f xs)) (sym h.2) in
    omega (arith, e, times_remove f o free h.0 h.1, taken_within f xs (remove free h.0) h.3 o)

at_place : (f : ℕ → ℕ) (x : ℕ) (free : List ℕ) → 1 ≤ times x (map f free) → (d : ℕ) × (d < length free) × (f (get_or free d 0) ≡ x)
at_place f x [] l = absurd (omega (arith, l, times_none x))
at_place f x (y ∷ free) l = by_test (nat_eq (f y) x) refl (at_place f x free)
  where
    by_test : (b : Bool) → nat_eq (f y) x ≡ b → (1 ≤ times x (map f free) → (d : ℕ) × (d < length free) × (f (get_or free d 0) ≡ x))
        → (d : ℕ) × (d < length (y ∷ free)) × (f (get_or (y ∷ free) d 0) ≡ x)
    by_test true e later = (0, omega arith, eqb-true (f y) x e)
    by_test false e later =
        let z : one x (f y) ≡ 0 = rw e refl in
        let r = later (omega (arith, l, z, times_cons x (f y) (map f free))) in
        (suc r.0, omega (arith, r.1), r.2)

pub to_taken : (f : ℕ → ℕ) (word free : List ℕ) → IsWithin (map f free) word → (xs : List ℕ) × IsTaken free xs × (map f xs ≡ word)
to_taken f [] free w = ([], tt, refl)
to_taken f (x ∷ word) free w =
    let here = at_place f x free (omega (arith, w x, times_cons x x word, one_of x x refl)) in
    let later = to_taken f word (remove free here.0) (λ o.
    let e : one o (f (get_or free here.0 0)) ≡ one o x = ap (one o) here.2 in
    omega (arith, w o, e, times_cons o x word, times_remove f o free here.0 here.1)) in
    (get_or free here.0 0 ∷ later.0, (here.0, here.1, refl, later.1), cons_same (f (get_or free here.0 0)) x (map f later.0) word here.2 later.2)
  where
    cons_same : (a b : ℕ) (us vs : List ℕ) → a ≡ b → us ≡ vs → a ∷ us ≡ b ∷ vs
    cons_same a b us vs e g = rw (e, g) refl

-- the list at all its places
range_map : (before xs : List ℕ) → map (λ i. slice_index (before ++ xs) i) (range_with_len (length before) (length xs)) ≡ xs
range_map before [] = refl
range_map before (x ∷ xs) =
    let e : (before ++ x ∷ []) ++ xs ≡ before ++ x ∷ xs = append_assoc before (x ∷ []) xs in
    let long : length (before ++ x ∷ []) ≡ length before + 1 = length_last before in
    let rest : map (λ i. slice_index (before ++ x ∷ xs) i) (range_with_len (length before + 1) (length xs)) ≡ xs =
    subst (λ (n : ℕ). map (λ i. slice_index (before ++ x ∷ xs) i) (range_with_len n (length xs)) ≡ xs) long
    (subst (λ (l : List ℕ). map (λ i. slice_index l i) (range_with_len (length (before ++ x ∷ [])) (length xs)) ≡ xs) e (range_map (before ++ x ∷ []) xs)) in
    two (slice_index (before ++ x ∷ xs) (length before)) _ (get_or-append_seam before x xs 0) rest
  where
    length_last : (l : List ℕ) → length (l ++ x ∷ []) ≡ length l + 1
    length_last [] = refl
    length_last (y ∷ l) = omega (arith, length_last l)

    two : (y : ℕ) (ys : List ℕ) → y ≡ x → ys ≡ xs → y ∷ ys ≡ x ∷ xs
    two y ys g h = rw (g, h) refl

-- ---- orders from lists that differ

pub map_parts : (f : ℕ → ℕ) (us vs xs : List ℕ) → map f xs ≡ us ++ vs → (ys : List ℕ) × (zs : List ℕ) × (xs ≡ ys ++ zs) × (map f ys ≡ us) × (map f zs ≡ vs)
map_parts f [] vs xs e = ([], xs, refl, refl, e)
map_parts f (a ∷ us) vs [] e = absurd (cc e)
map_parts f (a ∷ us) vs (x ∷ xs) e =
    let head : f x ≡ a = cc in
    let tail : map f xs ≡ us ++ vs = cc in
    let r = map_parts f us vs xs tail in
    (x ∷ r.0, r.1, ap (λ (l : List ℕ). x ∷ l) r.2, cons_both (f x) a (map f r.0) us head r.3, r.4)
  where
    cons_both : (a b : ℕ) (us vs : List ℕ) → a ≡ b → us ≡ vs → a ∷ us ≡ b ∷ vs
    cons_both a b us vs e g = rw (e, g) refl

pub spread_in : (p j : ℕ) (ys zs : List ℕ) → IsIn p (ys ++ j ∷ zs) → IsIn p (j ∷ ys ++ zs)
spread_in p j ys zs i = elim (IsIn-append_cases p ys (j ∷ zs) i) [
  | inl a ↦ inr (IsIn-append_left p ys zs a)
  | inr b ↦ elim b [ inl e ↦ inl e | inr k ↦ inr (IsIn-append_right p ys zs k) ]
]

pub differ_spread : (j : ℕ) (ys zs : List ℕ) → Differ (j ∷ ys ++ zs) → Differ (ys ++ j ∷ zs) × (IsIn j ys → ⊥)
differ_spread j [] zs d = (d, λ i. i)
differ_spread j (y ∷ ys) zs d =
    let later = differ_spread j ys zs (d.0.1, d.1.1) in (
      (
        each_from (λ x. y ≢ x) (ys ++ j ∷ zs) (λ x i. elim (spread_in x j ys zs i) [
          | inl e ↦ (λ g. d.0.0 (e ∙ sym g))
          | inr k ↦ each_at (λ x. y ≢ x) (ys ++ zs) x d.1.0 k
        ]),
        later.0,
      ),
      λ i. elim i [ inl e ↦ d.0.0 (sym e) | inr k ↦ later.1 k ],
    )

no_list : (j : ℕ) (ys zs : List ℕ) → ys ++ j ∷ zs ≡ [] → ⊥
no_list j [] zs e = absurd (cc e)
no_list j (y ∷ ys) zs e = absurd (cc e)

pub to_order : (n : ℕ) (xs : List ℕ) → xs ≢ [] → ((p : ℕ) → IsIn p xs → p < n) → Differ xs → IsOrder n xs
to_order n xs some below differ = record {
  someone = some;
  known = All-from_recursion (λ p. p < n) xs (each_from (λ p. p < n) xs below);
  distinct = distinct_from xs differ;
}

module _ (c : RawChoice) where
  pub whole : map (λ p. slice_index c.operations p) (range_with_len 0 (length c.operations)) ≡ c.operations
  whole = range_map [] c.operations

  -- an order is a word within the operations
  pub order_within : (order : List ℕ) → IsOrder (length c.operations) order → IsWithin c.operations (operations_of c order)
  order_within order o =
      let known = recursion_from_All (λ p. p < length c.operations) order o.known in
      let taken = differ_taken order (range_with_len 0 (length c.operations)) (differ_from order o.distinct)
      (λ p i. range_in 0 (length c.operations) p (omega arith) (let l = each_at (λ x. x < length c.operations) order p known i in omega (arith, l))) in
      subst (λ (stock : List ℕ). IsWithin stock (operations_of c order)) whole (taken_within (λ p. slice_index c.operations p) order (range_with_len 0 (length c.operations)) taken)

  -- ---- what a process sees in an order

  pub record Seen (t : TypeTable) (order : List ℕ) (j r q : ℕ) : Type 0 where
    pub before : List ℕ
    pub after : List ℕ
    pub is : order ≡ before ++ j ∷ after
    pub answer : (transition t (slice_index c.operations j) (state_after t c.state (operations_of c before))).0 ≡ r
    pub ends : state_after t c.state (operations_of c order) ≡ q

  pub response_seen : (t : TypeTable) (j s : ℕ) (order : List ℕ) (r : ℕ) → response_of j order (responses_along t s (operations_of c order)) ≡ Some r
      → (before : List ℕ) × (after : List ℕ) × (order ≡ before ++ j ∷ after) × ((transition t (slice_index c.operations j) (state_after t s (operations_of c before))).0 ≡ r)
  response_seen t j s [] r e = absurd (cc e)
  response_seen t j s (p ∷ ps) r e = by_test (nat_eq p j) refl e (response_seen t j (transition t (slice_index c.operations p) s).1 ps r)
    where
      by_test : (b : Bool) → nat_eq p j ≡ b
          → cond b (Some (transition t (slice_index c.operations p) s).0) (response_of j ps (responses_along t (transition t (slice_index c.operations p) s).1 (operations_of c ps))) ≡ Some r
          → (response_of j ps (responses_along t (transition t (slice_index c.operations p) s).1 (operations_of c ps)) ≡ Some r
          → (before : List ℕ) × (after : List ℕ) × (ps ≡ before ++ j ∷ after)
          × ((transition t (slice_index c.operations j) (state_after t (transition t (slice_index c.operations p) s).1 (operations_of c before))).0 ≡ r))
          → (before : List ℕ) × (after : List ℕ) × (p ∷ ps ≡ before ++ j ∷ after) × ((transition t (slice_index c.operations j) (state_after t s (operations_of c before))).0 ≡ r)
      by_test true test h later =
          let same : p ≡ j = eqb-true p j test in
          ([], ps, ap (λ (x : ℕ). x ∷ ps) same, ap (λ (x : ℕ). (transition t (slice_index c.operations x) s).0) (sym same) ∙ same_Some _ _ h)
      by_test false test h later = let x = later h in (p ∷ x.0, x.1, ap (λ (l : List ℕ). p ∷ l) x.2, x.3)

  pub seen : (t : TypeTable) (order : List ℕ) (j r q : ℕ) → pair_of t c order j ≡ Some (r, q) → Seen t order j r q
  seen t order j r q e =
      let parts = pair_parts t c j order r q e in
      let x = response_seen t j c.state order r parts.0 in
      record { before = x.0; after = x.1; is = x.2; answer = x.3; ends = parts.1 }

  -- ---- an order for a word

  pub record OrderFor (j : ℕ) (before after : List ℕ) : Type 0 where
    pub front : List ℕ
    pub back : List ℕ
    pub order : IsOrder (length c.operations) (front ++ j ∷ back)
    pub apart : IsIn j front → ⊥
    pub front_is : operations_of c front ≡ before
    pub back_is : operations_of c back ≡ after

  pub order_for : (j : ℕ) → j < length c.operations → (before after : List ℕ) → IsWithin c.operations (before ++ slice_index c.operations j ∷ after) → OrderFor j before after
  order_for j l before after w =
      let range = range_with_len 0 (length c.operations) in
      let f : ℕ → ℕ = λ p. slice_index c.operations p in
      let long : j < length range = omega (arith, l, length-range_with_len 0 (length c.operations)) in
      let at : get_or range j 0 ≡ j = get_or-range_with_len 0 (length c.operations) j 0 l ∙ omega arith in
      let taken = to_taken f (before ++ after) (remove range j) (λ o.
      let e : one o (f (get_or range j 0)) ≡ one o (f j) = ap (λ (p : ℕ). one o (f p)) at in
      let g : times o (map f range) ≡ times o c.operations = ap (times o) whole in
      omega (arith, w o, e, g, times_remove f o range j long, times_between o (f j) before after, times_append o before after)) in
      let all : IsTaken range (j ∷ taken.0) = (j, long, at, taken.1) in
      let differ = taken_differ (j ∷ taken.0) range (range_rises 0 (length c.operations)) all in
      let parts = map_parts f before after taken.0 taken.2 in
      let spread = differ_spread j parts.0 parts.1 (subst (λ (xs : List ℕ). Differ (j ∷ xs)) parts.2 differ) in
      record {
        front = parts.0;
        back = parts.1;
        order = to_order (length c.operations) (parts.0 ++ j ∷ parts.1) (λ e. no_list j parts.0 parts.1 e) (λ p i.
            let r = in_range 0 (length c.operations) p (taken_known (j ∷ taken.0) range p all (subst (λ (xs : List ℕ). IsIn p (j ∷ xs)) (sym parts.2) (spread_in p j parts.0 parts.1 i))) in
            omega (arith, r.1)) spread.0;
        apart = spread.1;
        front_is = parts.3;
        back_is = parts.4;
      }

  pub response_at : (t : TypeTable) (j s : ℕ) (front back : List ℕ) → (IsIn j front → ⊥)
      → response_of j (front ++ j ∷ back) (responses_along t s (operations_of c (front ++ j ∷ back))) ≡ Some (transition t (slice_index c.operations j) (state_after t s (operations_of c front))).0
  response_at t j s [] back n = rw (eq-eqb j j refl) refl
  response_at t j s (p ∷ front) back n =
      let no : nat_eq p j ≡ false = ne_eqb p j (λ e. n (inl e)) in
      rw no (response_at t j (transition t (slice_index c.operations p) s).1 front back (λ i. n (inr i)))

  -- and what the process sees in it
  pub sees : (t : TypeTable) (j : ℕ) (before after : List ℕ) (o r q : ℕ) → slice_index c.operations j ≡ o → (f : OrderFor j before after) → (transition t o (state_after t c.state before)).0 ≡ r
      → state_after t c.state (before ++ o ∷ after) ≡ q → pair_of t c (f.front ++ j ∷ f.back) j ≡ Some (r, q)
  sees t j before after o r q is f answer ends =
      pair_whole t c j (f.front ++ j ∷ f.back) r q
      (response_at t j c.state f.front f.back f.apart ∙ ap Some (rw (f.front_is, is) answer))
      (rw (map-append (λ p. slice_index c.operations p) f.front (j ∷ f.back), f.front_is, f.back_is, is) ends)
