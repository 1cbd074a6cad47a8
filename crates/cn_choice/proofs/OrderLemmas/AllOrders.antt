-- All orders of some of n processes, shorter first, then lexicographic.
use Rattle.std.proofs.Common.{◌≡◌, ◌≢◌, ℕ, zero, suc, ◌+◌, ◌-◌, ◌<◌, ◌≤◌, inl, inr, List, [], ◌∷◌, ◌++◌, length, refl, sym, ap, ◌∙◌, subst, arith, false, AllPairs, Contains, ◌↔◌, true≢false, nat_eq, append-nil, append_assoc}
use Rattle.std.specs.List.{AllByRecursion, IsDistinct, range_with_len, flat_map}
use Rattle.std.proofs.lemmas.List.Elements.{All-from_recursion, recursion_from_All}
use Rattle.std.proofs.lemmas.Bool.{eq-eqb, ne_eqb}
use Rattle.std.proofs.lemmas.List.FromFn.{length-range_with_len}
use Rattle.cn_choice.specs.Arrangements.{arrangements}
use Rattle.cn_choice.specs.Orders.{ComesBefore, IsOrder}
use Rattle.cn_choice.proofs.ListLemmas.Arrangements.{Differ, Precedes, arrangements_rise, differ_taken, taken_long}
use Rattle.cn_choice.proofs.ListLemmas.Members.{AllPairs-from_Pairs, Contains-from_IsIn, IsIn, IsIn-flat_map, IsIn-flat_map_from, IsIn-from_Contains, Pairs, Pairs-flat_map, Pairs-weaker, each_at, each_from}
use Rattle.cn_choice.proofs.ListLemmas.Permutations.{arranged, range_in, range_rises, to_arranged}
use Rattle.cn_choice.specs.OrdersLeft.{all_orders}

-- distinctness by cases on the list, and by std's word
pub distinct_from : (xs : List ℕ) → Differ xs → IsDistinct nat_eq xs
unfolding IsDistinct
distinct_from [] d = tt
distinct_from (x ∷ xs) d = (each_from (λ y. nat_eq x y ≡ false) xs (λ y i. ne_eqb x y (each_at (λ z. x ≢ z) xs y d.0 i)), distinct_from xs d.1)

pub differ_from : (xs : List ℕ) → IsDistinct nat_eq xs → Differ xs
unfolding IsDistinct
differ_from [] d = tt
differ_from (x ∷ xs) d = (each_from (λ y. x ≢ y) xs (λ y i e. true≢false (sym (eq-eqb x y e) ∙ each_at (λ z. nat_eq x z ≡ false) xs y d.0 i)), differ_from xs d.1)

pub not_empty : (k : ℕ) (xs : List ℕ) → length xs ≡ k → 1 ≤ k → xs ≢ []
not_empty k xs l o e = absurd (omega (arith, ap length e))

pub some_length : (xs : List ℕ) → xs ≢ [] → 1 ≤ length xs
some_length [] n = absurd (n refl)
some_length (x ∷ xs) n = omega arith

-- a list of distinct numbers below n has at most n elements
pub fits_below : (n : ℕ) (xs : List ℕ) → AllByRecursion (λ x. x < n) xs → Differ xs → length xs ≤ n
fits_below n xs b d =
    let t = differ_taken xs (range_with_len 0 n) d (λ x i. range_in 0 n x (omega arith) (omega (arith, each_at (λ y. y < n) xs x b i))) in
    omega (arith, taken_long xs (range_with_len 0 n) t, length-range_with_len 0 n)

-- one length more
pub flat_map-range_more : {X : Type 0} (f : ℕ → List X) (a n : ℕ) → flat_map f (range_with_len a (suc n)) ≡ flat_map f (range_with_len a n) ++ f (a + n)
flat_map-range_more f a zero = let e : a + 0 ≡ a = omega arith in rw e (append-nil (f a))
flat_map-range_more f a (suc n) =
    let e : a + suc n ≡ a + 1 + n = omega arith in
    rw (flat_map-range_more f (a + 1) n, e) (sym (append_assoc (f a) (flat_map f (range_with_len (a + 1) n)) (f (a + 1 + n))))

pub listing_more : (n k : ℕ) → 1 ≤ k
    → flat_map (λ k. arrangements k (range_with_len 0 n)) (range_with_len 1 (k - 1)) ++ arrangements k (range_with_len 0 n) ≡ flat_map (λ k. arrangements k (range_with_len 0 n)) (range_with_len 1 k)
listing_more n k l =
    let e : k ≡ suc (k - 1) = omega arith in
    let f : 1 + (k - 1) ≡ k = omega arith in
    let more = flat_map-range_more (λ k. arrangements k (range_with_len 0 n)) 1 (k - 1) in
    ap (λ (j : ℕ). flat_map (λ k. arrangements k (range_with_len 0 n)) (range_with_len 1 (k - 1)) ++ arrangements j (range_with_len 0 n)) (sym f)
    ∙ (sym more ∙ ap (λ (j : ℕ). flat_map (λ k. arrangements k (range_with_len 0 n)) (range_with_len 1 j)) (sym e))

pub listed : (n : ℕ) (order : List ℕ) → IsIn order (all_orders n) → IsOrder n order
listed n order i =
    let r = IsIn-flat_map_from (λ k. arrangements k (range_with_len 0 n)) order 1 n i in
    let a = arranged n r.0 order r.3 in
    record { someone = not_empty r.0 order a.0 r.1; known = All-from_recursion (λ p. p < n) order a.1; distinct = distinct_from order a.2 }

pub to_listed : (n : ℕ) (order : List ℕ) → IsOrder n order → IsIn order (all_orders n)
to_listed n order o =
    let known = recursion_from_All (λ p. p < n) order o.known in
    let differ = differ_from order o.distinct in
    IsIn-flat_map (λ k. arrangements k (range_with_len 0 n)) order (length order) 1 n (some_length order o.someone) (omega (arith, fits_below n order known differ))
    (to_arranged n order (λ x i. each_at (λ p. p < n) order x known i) differ)

pub listing_in_order : (n : ℕ) → Pairs ComesBefore (all_orders n)
listing_in_order n =
    Pairs-flat_map ComesBefore (λ k. arrangements k (range_with_len 0 n)) 1 n
    (λ k l u. Pairs-weaker Precedes ComesBefore (arrangements k (range_with_len 0 n)) (λ x y i j p. inr ((arranged n k x i).0 ∙ sym (arranged n k y j).0, p))
    (arrangements_rise k (range_with_len 0 n) (range_rises 0 n)))
    (λ k m x y l g u i j. inl (omega (arith, (arranged n k x i).0, (arranged n m y j).0, g)))

pub listing_is : (n : ℕ) (ls : List (List ℕ)) → ls ≡ all_orders n → ((order : List ℕ) → Contains ls order ↔ IsOrder n order) × AllPairs ComesBefore ls
listing_is n ls e = (
  λ order. (λ h. listed n order (subst (λ xs. IsIn order xs) e (IsIn-from_Contains order ls h)), λ o. Contains-from_IsIn order ls (subst (λ xs. IsIn order xs) (sym e) (to_listed n order o))),
  AllPairs-from_Pairs ComesBefore ls (subst (λ xs. Pairs ComesBefore xs) (sym e) (listing_in_order n)),
)
