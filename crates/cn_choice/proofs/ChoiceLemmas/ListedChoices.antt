-- Exactly the canonical choices are listed.
use Rattle.std.proofs.Common.{◌≡◌, ◌≢◌, ℕ, zero, suc, ◌+◌, ◌-◌, ◌/◌, ◌<◌, ◌≤◌, inl, inr, List, [], ◌∷◌, length, map, refl, sym, ap, ◌∙◌, subst, arith, Bool, true, false, cond, ltb, Less, Equal, Greater}
use Rattle.std.specs.List.{AllByRecursion, flat_map, range_with_len}
use Rattle.std.specs.Ordering.{nat_cmp}
use Rattle.std.specs.Cmp.{nat_cmp_is}
use Rattle.std.specs.Cmp.Lexicographic.{slice_cmp}
use Rattle.std.proofs.lemmas.Bool.{cases_order, ltb-true, ltb-false}
use Rattle.cn_choice.specs.Canonical.{Choice, IsCanonical, canonical_choices, second_lists, with_first, with_size, with_state}
use Rattle.cn_choice.specs.Rising.{rising_after, rising_lists}
use Rattle.cn_choice.proofs.ListLemmas.Arrangements.{Precedes, Precedes-head, Precedes-tail}
use Rattle.cn_choice.proofs.ListLemmas.Members.{IsIn, IsIn-append_cases, IsIn-append_left, IsIn-append_right, IsIn-flat_map, IsIn-flat_map_any, IsIn-flat_map_any_from, IsIn-flat_map_from, IsIn-map, IsIn-map_from, each_at, each_from}
use Rattle.cn_choice.proofs.ListLemmas.NonDecreasingLists.{NeverFalls, is_non_decreasing, never_falls}

-- k numbers from low on and below m, non-decreasing
pub record IsRising (low m k : ℕ) (xs : List ℕ) : Type 0 where
  pub long : length xs ≡ k
  pub above : AllByRecursion (λ x. low ≤ x) xs
  pub below : AllByRecursion (λ x. x < m) xs
  pub in_order : NeverFalls xs

each_weaker : (P Q : ℕ → Type 0) (xs : List ℕ) → ((x : ℕ) → P x → Q x) → AllByRecursion P xs → AllByRecursion Q xs
each_weaker P Q xs f a = each_from Q xs (λ x i. f x (each_at P xs x a i))

pub rising_from : (k low m : ℕ) (xs : List ℕ) → IsIn xs (rising_lists low m k) → IsRising low m k xs
rising_from zero low m xs h = elim h [ inl e ↦ subst (IsRising low m 0) e (record { long = refl; above = tt; below = tt; in_order = tt }) | inr n ↦ absurd n ]
rising_from (suc k) low m xs h =
    let r = IsIn-flat_map_from (λ d. map (λ ds. d ∷ ds) (rising_lists d m k)) xs low (m - low) h in
    let s = IsIn-map_from (λ ds. r.0 ∷ ds) xs (rising_lists r.0 m k) r.3 in
    let t = rising_from k r.0 m s.0 s.2 in
    subst (IsRising low m (suc k)) s.1 (record {
      long = ap suc t.long;
      above = (r.1, each_weaker (λ x. r.0 ≤ x) (λ x. low ≤ x) s.0 (λ x l. omega (arith, l, r.1)) t.above);
      below = (omega (arith, r.1, r.2), t.below);
      in_order = (t.above, t.in_order);
    })

pub to_rising : (k low m : ℕ) (xs : List ℕ) → IsRising low m k xs → IsIn xs (rising_lists low m k)
to_rising zero low m [] h = inl refl
to_rising zero low m (x ∷ xs) h = absurd (omega (arith, h.long))
to_rising (suc k) low m [] h = absurd (omega (arith, h.long))
to_rising (suc k) low m (x ∷ xs) h =
    IsIn-flat_map (λ d. map (λ ds. d ∷ ds) (rising_lists d m k)) (x ∷ xs) x low (m - low) h.above.0 (omega (arith, h.above.0, h.below.0))
    (IsIn-map (λ ds. x ∷ ds) xs (rising_lists x m k) (to_rising k x m xs (record { long = omega (arith, h.long); above = h.in_order.0; below = h.below.1; in_order = h.in_order.1 })))

-- each list after a non-decreasing list is non-decreasing too, and comes later
pub after_from : (low m : ℕ) (xs ys : List ℕ) → IsRising low m (length xs) xs → IsIn ys (rising_after m xs) → IsRising low m (length xs) ys × Precedes xs ys
after_from low m [] ys h i = absurd i
after_from low m (x ∷ xs) ys h i =
    elim (IsIn-append_cases ys (map (λ ds. x ∷ ds) (rising_after m xs)) (flat_map (λ d. map (λ ds. d ∷ ds) (rising_lists d m (length xs))) (range_with_len (x + 1) (m - (x + 1)))) i) [
      | inl j ↦
          (let s = IsIn-map_from (λ ds. x ∷ ds) ys (rising_after m xs) j in
          let t = after_from x m xs s.0 (record { long = refl; above = h.in_order.0; below = h.below.1; in_order = h.in_order.1 }) s.2 in
          subst (λ (zs : List ℕ). IsRising low m (suc (length xs)) zs × Precedes (x ∷ xs) zs) s.1 (
            record {
              long = ap suc t.0.long;
              above = (h.above.0, each_weaker (λ z. x ≤ z) (λ z. low ≤ z) s.0 (λ z l. omega (arith, l, h.above.0)) t.0.above);
              below = (h.below.0, t.0.below);
              in_order = (t.0.above, t.0.in_order);
            },
            Precedes-tail x xs s.0 t.1,
          ))
      | inr j ↦
          (let r = IsIn-flat_map_from (λ d. map (λ ds. d ∷ ds) (rising_lists d m (length xs))) ys (x + 1) (m - (x + 1)) j in
          let s = IsIn-map_from (λ ds. r.0 ∷ ds) ys (rising_lists r.0 m (length xs)) r.3 in
          let t = rising_from (length xs) r.0 m s.0 s.2 in
          subst (λ (zs : List ℕ). IsRising low m (suc (length xs)) zs × Precedes (x ∷ xs) zs) s.1 (
            record {
              long = ap suc t.long;
              above = (omega (arith, r.1, h.above.0), each_weaker (λ z. r.0 ≤ z) (λ z. low ≤ z) s.0 (λ z l. omega (arith, l, r.1, h.above.0)) t.above);
              below = (omega (arith, r.1, r.2), t.below);
              in_order = (t.above, t.in_order);
            },
            Precedes-head x r.0 xs s.0 (omega (arith, r.1)),
          ))
    ]

-- a non-decreasing list that does not come before this one is equal to it or comes after it
pub to_after : (low m : ℕ) (xs ys : List ℕ) → IsRising low m (length xs) ys → slice_cmp nat_cmp xs ys ≢ Greater → IsIn ys (xs ∷ rising_after m xs)
to_after low m [] [] h n = inl refl
to_after low m [] (y ∷ ys) h n = absurd (omega (arith, h.long))
to_after low m (x ∷ xs) [] h n = absurd (omega (arith, h.long))
to_after low m (x ∷ xs) (y ∷ ys) h n =
    let rest : IsRising y m (length xs) ys = record { long = omega (arith, h.long); above = h.in_order.0; below = h.below.1; in_order = h.in_order.1 } in
    elim (cases_order x y) [
      | inl e ↦
          (let tail : slice_cmp nat_cmp xs ys ≢ Greater = λ g. n (rw (e, sym (nat_cmp_is y y Equal refl)) g) in
          elim (to_after y m xs ys rest tail) [
            | inl same ↦ inl (rw (e, same) refl)
            | inr i ↦ inr (IsIn-append_left (y ∷ ys) (map (λ ds. x ∷ ds) (rising_after m xs)) _
                (subst (λ (z : ℕ). IsIn (y ∷ ys) (map (λ ds. z ∷ ds) (rising_after m xs))) (sym e) (IsIn-map (λ ds. y ∷ ds) ys (rising_after m xs) i)))
          ])
      | inr r ↦ elim r [
        | inl l ↦ inr (IsIn-append_right (y ∷ ys) (map (λ ds. x ∷ ds) (rising_after m xs)) _
            (IsIn-flat_map (λ d. map (λ ds. d ∷ ds) (rising_lists d m (length xs))) (y ∷ ys) y (x + 1) (m - (x + 1)) (omega (arith, l)) (omega (arith, l, h.below.0))
            (IsIn-map (λ ds. y ∷ ds) ys (rising_lists y m (length xs)) (to_rising (length xs) y m ys rest))))
        | inr g ↦ absurd (n (rw (sym (nat_cmp_is x y Greater g)) refl))
      ]
    ]

-- a canonical choice for n processes, with this number of states and m operations
pub record IsListed (states m n : ℕ) (c : Choice) : Type 0 where
  pub known_state : c.state < states
  pub a_below : AllByRecursion (λ o. o < m) c.a
  pub b_below : AllByRecursion (λ o. o < m) c.b
  pub all : length c.a + length c.b ≡ n
  pub canonical : IsCanonical c

pub above_zero : (xs : List ℕ) → AllByRecursion (λ x. 0 ≤ x) xs
above_zero [] = tt
above_zero (x ∷ xs) = (omega arith, above_zero xs)

precedes_not_above : (xs ys : List ℕ) → Precedes xs ys → slice_cmp nat_cmp xs ys ≢ Greater
precedes_not_above xs ys p g = less_not_greater (sym p ∙ g)
  where
    less_not_greater : Less ≡ Greater → ⊥
    less_not_greater e = cc

not_above_itself : (xs : List ℕ) → slice_cmp nat_cmp xs xs ≢ Greater
not_above_itself [] g = cc g
not_above_itself (x ∷ xs) g = not_above_itself xs (rw (sym (nat_cmp_is x x Equal refl)) at g)

-- the second lists that combine with a first one
pub second_from : (m n : ℕ) (a b : List ℕ) → IsRising 0 m (length a) a → length a + length a ≤ n → IsIn b (second_lists m n a)
    → IsRising 0 m (n - length a) b × (length a ≡ length b → slice_cmp nat_cmp a b ≢ Greater)
second_from m n a b r half h = by_test (ltb (length a + length a) n) refl h
  where
    by_test : (t : Bool) → ltb (length a + length a) n ≡ t → IsIn b (cond t (rising_lists 0 m (n - length a)) (a ∷ rising_after m a))
        → IsRising 0 m (n - length a) b × (length a ≡ length b → slice_cmp nat_cmp a b ≢ Greater)
    by_test true e i = let l = ltb-true (length a + length a) n e in let s = rising_from (n - length a) 0 m b i in (s, λ g. absurd (omega (arith, l, g, s.long)))
    by_test false e i =
        let l = ltb-false (length a + length a) n e in
        let same : length a ≡ n - length a = omega (arith, l, half) in
        subst (λ (k : ℕ). IsRising 0 m k b × (length a ≡ length b → slice_cmp nat_cmp a b ≢ Greater)) same
        (elim i [
          | inl g ↦ subst (λ (z : List ℕ). IsRising 0 m (length a) z × (length a ≡ length z → slice_cmp nat_cmp a z ≢ Greater)) g (r, λ _. not_above_itself a)
          | inr j ↦ (let t = after_from 0 m a b r j in (t.0, λ _. precedes_not_above a b t.1))
        ])

pub to_second : (m n : ℕ) (a b : List ℕ) → length a + length b ≡ n → length a ≤ length b → IsRising 0 m (length b) b → (length a ≡ length b → slice_cmp nat_cmp a b ≢ Greater)
    → IsIn b (second_lists m n a)
to_second m n a b all short r first = by_test (ltb (length a + length a) n) refl
  where
    by_test : (t : Bool) → ltb (length a + length a) n ≡ t → IsIn b (cond t (rising_lists 0 m (n - length a)) (a ∷ rising_after m a))
    by_test true e = to_rising (n - length a) 0 m b (subst (λ (k : ℕ). IsRising 0 m k b) (omega (arith, all)) r)
    by_test false e =
        let l = ltb-false (length a + length a) n e in
        let same : length a ≡ length b = omega (arith, l, all, short) in
        to_after 0 m a b (subst (λ (k : ℕ). IsRising 0 m k b) (sym same) r) (first same)

pub choice_listed : (states m n : ℕ) (c : Choice) → IsIn c (canonical_choices states m n) → IsListed states m n c
unfolding canonical_choices
choice_listed states m n c h =
    let q = IsIn-flat_map_from (with_state m n) c 0 states h in
    let k = IsIn-flat_map_from (with_size m n q.0) c 1 (n / 2) q.3 in
    let a = IsIn-flat_map_any_from (with_first m n q.0) c (rising_lists 0 m k.0) k.3 in
    let b = IsIn-map_from (λ b. let t : Choice = record { state = q.0; a = a.0; b = b } in t) c (second_lists m n a.0) a.2 in
    let first = rising_from k.0 0 m a.0 a.1 in
    let half : length a.0 + length a.0 ≤ n = omega (arith, k.2, first.long) in
    let second = second_from m n a.0 b.0 (subst (λ (z : ℕ). IsRising 0 m z a.0) (sym first.long) first) half b.2 in
    let d : Choice = record { state = q.0; a = a.0; b = b.0 } in
    let listed : IsListed states m n d = record {
      known_state = omega (arith, q.2);
      a_below = first.below;
      b_below = second.0.below;
      all = omega (arith, second.0.long, half);
      canonical = record {
        a_in_order = is_non_decreasing a.0 first.in_order;
        b_in_order = is_non_decreasing b.0 second.0.in_order;
        someone_in_a = omega (arith, k.1, first.long);
        a_not_longer = omega (arith, second.0.long, half);
        a_not_above = second.1;
      };
    } in
    subst (IsListed states m n) {x = d} b.1 listed

pub to_choice_listed : (states m n : ℕ) (c : Choice) → IsListed states m n c → IsIn c (canonical_choices states m n)
unfolding canonical_choices
to_choice_listed states m n c l =
    let can = l.canonical in
    let half : length c.a + length c.a ≤ n = omega (arith, l.all, can.a_not_longer) in
    let a_in = to_rising (length c.a) 0 m c.a (record { long = refl; above = above_zero c.a; below = l.a_below; in_order = never_falls c.a can.a_in_order }) in
    let b_in = to_second m n c.a c.b l.all can.a_not_longer (record { long = refl; above = above_zero c.b; below = l.b_below; in_order = never_falls c.b can.b_in_order }) can.a_not_above in
    IsIn-flat_map (with_state m n) c c.state 0 states (omega arith) (omega (arith, l.known_state))
    (IsIn-flat_map (with_size m n c.state) c (length c.a) 1 (n / 2) can.someone_in_a (omega (arith, half))
    (IsIn-flat_map_any (with_first m n c.state) c c.a (rising_lists 0 m (length c.a)) a_in (IsIn-map (λ b. record { state = c.state; a = c.a; b = b }) c.b (second_lists m n c.a) b_in)))
