-- A renumbering of all processes can be undone.
use Rattle.std.proofs.Common.{◌≡◌, ◌≢◌, ℕ, zero, suc, ◌+◌, ◌<◌, ◌≤◌, ◌⊎◌, inl, inr, List, [], ◌∷◌, length, map, get_or, refl, sym, ap, ◌∙◌, subst, arith, Bool, true, false, cond, nat_eq}
use Rattle.std.specs.Prelude.{slice_get, slice_index}
use Rattle.std.specs.List.{AllByRecursion, range_with_len}
use Rattle.std.proofs.lemmas.Bool.{eqb-true, eqb-false}
use Rattle.std.proofs.lemmas.List.{length-map, get_or_default}
use Rattle.std.proofs.Math.ListN.{get_or-map}
use Rattle.std.proofs.lemmas.List.FromFn.{length-range_with_len, get_or-range_with_len}
use Rattle.cn_choice.specs.RawChoices.{RawChoice}
use Rattle.cn_choice.specs.Renumbering.{Embeds}
use Rattle.cn_choice.proofs.ListLemmas.Arrangements.{Differ}
use Rattle.cn_choice.proofs.ChoiceLemmas.Embeddings.{differ_map, each_map}
use Rattle.cn_choice.proofs.OrderLemmas.AllOrders.{fits_below}
use Rattle.cn_choice.proofs.ListLemmas.Members.{IsIn, each_from}
use Rattle.cn_choice.proofs.ListLemmas.Permutations.{in_range}

-- the first place of k
abbrev pub first_place : ℕ → List ℕ → ℕ
first_place k [] = 0
first_place k (x ∷ xs) = cond (nat_eq x k) 0 (suc (first_place k xs))

place_at : (k : ℕ) (xs : List ℕ) → IsIn k xs → (first_place k xs < length xs) × (get_or xs (first_place k xs) 0 ≡ k)
place_at k [] i = absurd i
place_at k (x ∷ xs) i = by_test (nat_eq x k) refl (place_at k xs)
  where
    by_test : (b : Bool) → nat_eq x k ≡ b → (IsIn k xs → (first_place k xs < length xs) × (get_or xs (first_place k xs) 0 ≡ k))
        → (cond b 0 (suc (first_place k xs)) < length (x ∷ xs)) × (get_or (x ∷ xs) (cond b 0 (suc (first_place k xs))) 0 ≡ k)
    by_test true t later = (omega arith, eqb-true x k t)
    by_test false t later = let r = later (elim i [ inl e ↦ absurd (eqb-false x k t e) | inr j ↦ j ]) in (omega (arith, r.0), r.1)

is_in : (k : ℕ) (xs : List ℕ) → IsIn k xs ⊎ (IsIn k xs → ⊥)
is_in k [] = inr (λ h. h)
is_in k (x ∷ xs) = by_test (nat_eq x k) refl (is_in k xs)
  where
    by_test : (b : Bool) → nat_eq x k ≡ b → IsIn k xs ⊎ (IsIn k xs → ⊥) → ((x ≡ k) ⊎ IsIn k xs) ⊎ (((x ≡ k) ⊎ IsIn k xs) → ⊥)
    by_test true t r = inl (inl (eqb-true x k t))
    by_test false t r = elim r [ inl i ↦ inl (inr i) | inr n ↦ inr (λ h. elim h [ inl e ↦ eqb-false x k t e | inr i ↦ n i ]) ]

-- n different numbers below n are all of them
reached : (n k : ℕ) (xs : List ℕ) → AllByRecursion (λ x. x < n) xs → Differ xs → length xs ≡ n → k < n → IsIn k xs
reached n k xs a d e l =
    elim (is_in k xs) [
      | inl i ↦ i
      | inr none ↦ absurd (
          let more = fits_below n (k ∷ xs) (l, a) (each_from (λ y. k ≢ y) xs (λ y i g. none (subst (λ (z : ℕ). IsIn z xs) (sym g) i)), d) in
          omega (arith, more, e))
    ]

range_known : (a n m : ℕ) → a + n ≤ m → AllByRecursion (λ x. x < m) (range_with_len a n)
range_known a zero m l = tt
range_known a (suc n) m l = (omega arith, range_known (a + 1) n m (omega arith))

range_differ : (a n : ℕ) → Differ (range_with_len a n)
range_differ a zero = tt
range_differ a (suc n) = (each_from (λ y. a ≢ y) (range_with_len (a + 1) n) (λ y i e. let r = in_range (a + 1) n y i in absurd (omega (arith, r.0, e))), range_differ (a + 1) n)

-- the place of each process of d
abbrev pub places : (ℕ → ℕ) → ℕ → List ℕ
places f n = map f (range_with_len 0 n)

back_at : (f : ℕ → ℕ) (n : ℕ) → ((i : ℕ) → i < n → f i < n) → ((i j : ℕ) → i < n → j < n → f i ≡ f j → i ≡ j) → (k : ℕ) → k < n
    → (first_place k (places f n) < n) × (f (first_place k (places f n)) ≡ k)
back_at f n inside apart k l =
    let known = range_known 0 n n (omega arith) in
    let long = length-map (range_with_len 0 n) f ∙ length-range_with_len 0 n in
    let r = place_at k (places f n) (reached n k (places f n) (each_map f n n inside (range_with_len 0 n) known) (differ_map f n apart (range_with_len 0 n) known (range_differ 0 n)) long l) in
    let below : first_place k (places f n) < n = omega (arith, r.0, long) in
    let i : ℕ = first_place k (places f n) in
    let z : 0 + i ≡ i = omega arith in
    let at : get_or (range_with_len 0 n) i 0 ≡ i = get_or-range_with_len 0 n i 0 below ∙ z in
    (below, ap f (sym at) ∙ (sym (get_or-map f (range_with_len 0 n) i 0) ∙ (get_or_default (places f n) i (f 0) 0 r.0 ∙ r.1)))

pub embeds_back : (f : ℕ → ℕ) (d c : RawChoice) → length d.operations ≡ length c.operations → Embeds f d c → Embeds (λ k. first_place k (places f (length d.operations))) c d
embeds_back f d c same e =
    let n : ℕ = length d.operations in
    let back : (k : ℕ) → k < length c.operations → (first_place k (places f n) < n) × (f (first_place k (places f n)) ≡ k) = λ k l.
    back_at f n (λ i u. omega (arith, same, e.inside i u)) e.apart k (omega (arith, same, l)) in
    record {
      same_state = sym e.same_state;
      inside = λ k l. (back k l).0;
      apart = λ k m l u g. sym (back k l).1 ∙ (ap f g ∙ (back m u).1);
      operation = λ k l. ap (slice_index c.operations) (sym (back k l).1) ∙ sym (e.operation (first_place k (places f n)) (back k l).0);
      team = λ k l. ap (slice_get c.marks) (sym (back k l).1) ∙ sym (e.team (first_place k (places f n)) (back k l).0);
    }
