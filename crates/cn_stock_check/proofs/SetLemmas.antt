-- Sets of small numbers, as the bits of a number.
use Rattle.std.proofs.Common.{◌≡◌, ◌≢◌, ℕ, zero, suc, ◌+◌, ◌^◌, ◌<◌, ◌≤◌, ◌⊎◌, inl, inr, ◌↔◌, List, length, refl, sym, ap, ◌∙◌, subst, arith, bit_and, bit_or, get_or, get_or-set_same, get_or-set_other, slice_set, replicate, Bool, true, false, not, nat_eq, true≢false}
use Rattle.std.specs.Prelude.{IsTrue}
use Rattle.std.specs.Int.{bit_at, w16, trailing_zeros}
use Rattle.std.proofs.lemmas.Bool.{eqb-true, eq-eqb}
use Rattle.std.proofs.lemmas.Nat.{and_le_l}
use Rattle.std.proofs.lemmas.Nat.Bits.{bit_at_and, bit_at_or, bit_at-lt, bit_at-pow_same, bit_at-pow_other, bit_at-trailing_zeros, bit_at-zero}
use Rattle.std.proofs.lemmas.List.{get_or_past}
use Rattle.cn_stocks.proofs.StockLemmas.{before_or_behind}
use Rattle.cn_stocks.proofs.Times.{same_or}
use Rattle.cn_stock_check.specs.Sets.{IsIn}

by_bit : (n k : ℕ) → (bit_at n k ≡ 0) ⊎ (bit_at n k ≡ 1)
by_bit n k = cases (bit_at n k) refl (bit_at-lt n k)
  where
    cases : (b : ℕ) → bit_at n k ≡ b → b < 2 → (bit_at n k ≡ 0) ⊎ (bit_at n k ≡ 1)
    cases zero e l = inl e
    cases (suc zero) e l = inr e
    cases (suc (suc b)) e l = absurd (omega arith)

pub none_in_0 : (q : ℕ) → ¬ IsIn 0 q
none_in_0 q h = absurd (omega (arith, h, bit_at-zero q))

zero_at : (n k : ℕ) → get_or {A = ℕ} (replicate n 0) k 0 ≡ 0
zero_at zero k = refl
zero_at (suc n) zero = refl
zero_at (suc n) (suc k) = zero_at n k

-- no number is in one of the empty sets
pub none_at : (n k q : ℕ) → ¬ IsIn (get_or {A = ℕ} (replicate n 0) k 0) q
none_at n k q h = none_in_0 q (subst (λ (x : ℕ). IsIn x q) (zero_at n k) h)

pub in_either : (a b q : ℕ) → IsIn (bit_or a b) q ↔ (IsIn a q ⊎ IsIn b q)
in_either a b q = (
  λ h. elim (by_bit a q) [
    | inl e ↦ inr (omega (arith, bit_at_or a b q, h, e, bit_at-lt b q))
    | inr e ↦ inl e
  ],
  λ h. elim h [
    | inl e ↦ omega (arith, bit_at_or a b q, e, bit_at-lt b q)
    | inr e ↦ omega (arith, bit_at_or a b q, e, bit_at-lt a q)
  ],
)

pub in_pow : (k q : ℕ) → IsIn (2 ^ k) q ↔ (q ≡ k)
in_pow k q = (
  λ h. elim (same_or q k) [ inl e ↦ e | inr n ↦ absurd (omega (arith, h, bit_at-pow_other k q n)) ],
  λ e. subst (λ (i : ℕ). bit_at (2 ^ k) i ≡ 1) (sym e) (bit_at-pow_same k),
)

common_some : (a b : ℕ) → a < 2 ^ 16 → bit_and a b ≢ 0 → (q : ℕ) × IsIn a q × IsIn b q
common_some a b l n =
    let less : bit_and a b < 2 ^ 16 = omega (arith, l, and_le_l a b) in
    let some : 0 < bit_and a b = omega arith in
    let first = bit_at-trailing_zeros w16 (bit_and a b) some less in
    let q = trailing_zeros w16 (bit_and a b) in
    (q, omega (arith, first.1, bit_at_and a b q, bit_at-lt a q), omega (arith, first.1, bit_at_and a b q, bit_at-lt b q))

common_none : (a b q : ℕ) → bit_and a b ≡ 0 → IsIn a q → IsIn b q → ⊥
common_none a b q e s u = absurd (omega (arith, bit_at_and a b q, s, u, ap (λ (n : ℕ). bit_at n q) e, bit_at-zero q))

pub in_both : (a b : ℕ) → a < 2 ^ 16 → IsTrue (not (nat_eq (bit_and a b) 0)) ↔ ((q : ℕ) × IsIn a q × IsIn b q)
in_both a b l = cases (nat_eq (bit_and a b) 0) refl
  where
    cases : (e : Bool) → nat_eq (bit_and a b) 0 ≡ e → IsTrue (not e) ↔ ((q : ℕ) × IsIn a q × IsIn b q)
    cases true e = (λ t. absurd (true≢false (sym t)), λ h. absurd (common_none a b h.0 (eqb-true (bit_and a b) 0 e) h.1 h.2))
    cases false e = (λ t. common_some a b l (λ z. true≢false (sym (eq-eqb (bit_and a b) 0 z) ∙ e)), λ h. refl)

-- ---- rows of sets

pub none_past : (xs : List ℕ) (r q : ℕ) → length xs ≤ r → ¬ IsIn (get_or xs r 0) q
none_past xs r q l h = none_in_0 q (subst (λ (x : ℕ). IsIn x q) (get_or_past xs r 0 l) h)

-- more is added to one set
pub added_at : (xs : List ℕ) (i new : ℕ) (N : ℕ → Type 0) → i < length xs → ((q : ℕ) → IsIn new q ↔ (IsIn (get_or xs i 0) q ⊎ N q))
    → (r q : ℕ) → IsIn (get_or (slice_set xs i new) r 0) q ↔ (IsIn (get_or xs r 0) q ⊎ ((r ≡ i) × N q))
added_at xs i new N l is r q = elim (same_or r i) [
  | inl e ↦ subst (λ (j : ℕ). IsIn (get_or (slice_set xs i new) j 0) q ↔ (IsIn (get_or xs j 0) q ⊎ ((j ≡ i) × N q))) (sym e)
      (subst (λ (x : ℕ). IsIn x q ↔ (IsIn (get_or xs i 0) q ⊎ ((i ≡ i) × N q))) (sym (get_or-set_same xs i new 0 l))
      (λ h. elim ((is q).0 h) [ inl a ↦ inl a | inr b ↦ inr (refl, b) ], λ h. (is q).1 (elim h [ inl a ↦ inl a | inr b ↦ inr b.1 ])))
  | inr n ↦ subst (λ (x : ℕ). IsIn x q ↔ (IsIn (get_or xs r 0) q ⊎ ((r ≡ i) × N q))) (sym (get_or-set_other xs i r new 0 n))
      (λ h. inl h, λ h. elim h [ inl a ↦ a | inr b ↦ absurd (n b.0) ])
]

-- more is added to the sets so far
module _ (X : ℕ → ℕ → Type 0) (first xs : List ℕ) (k new : ℕ) (l : k < length xs) where
  pub added_more : ((r : ℕ) → r < k → (q : ℕ) → IsIn (get_or xs r 0) q ↔ (IsIn (get_or first r 0) q ⊎ X r q)) → get_or xs k 0 ≡ get_or first k 0
      → ((q : ℕ) → IsIn new q ↔ (IsIn (get_or xs k 0) q ⊎ X k q)) → (r : ℕ) → r < k + 1 → (q : ℕ) → IsIn (get_or (slice_set xs k new) r 0) q ↔ (IsIn (get_or first r 0) q ⊎ X r q)
  added_more done same is r u q = elim (same_or r k) [
    | inl e ↦ subst (λ (j : ℕ). IsIn (get_or (slice_set xs k new) j 0) q ↔ (IsIn (get_or first j 0) q ⊎ X j q)) (sym e)
        (subst (λ (x : ℕ). IsIn x q ↔ (IsIn (get_or first k 0) q ⊎ X k q)) (sym (get_or-set_same xs k new 0 l)) (subst (λ (x : ℕ). IsIn new q ↔ (IsIn x q ⊎ X k q)) same (is q)))
    | inr n ↦ subst (λ (x : ℕ). IsIn x q ↔ (IsIn (get_or first r 0) q ⊎ X r q)) (sym (get_or-set_other xs k r new 0 n)) (done r (omega (arith, u, n)) q)
  ]

  pub still_open : ((r : ℕ) → k ≤ r → get_or xs r 0 ≡ get_or first r 0) → (r : ℕ) → k + 1 ≤ r → get_or (slice_set xs k new) r 0 ≡ get_or first r 0
  still_open same r u = get_or-set_other xs k r new 0 (λ e. absurd (omega (arith, u, e))) ∙ same r (omega (arith, u))

-- all sets are done
pub all_added : (X : ℕ → ℕ → Type 0) (first xs from : List ℕ) (k : ℕ) → length first ≤ k → length xs ≤ k → length from ≤ k → ((r q : ℕ) → X r q → (p : ℕ) × IsIn (get_or from r 0) p)
    → ((r : ℕ) → r < k → (q : ℕ) → IsIn (get_or xs r 0) q ↔ (IsIn (get_or first r 0) q ⊎ X r q)) → (r q : ℕ) → IsIn (get_or xs r 0) q ↔ (IsIn (get_or first r 0) q ⊎ X r q)
all_added X first xs from k a b c some done r q = elim (before_or_behind r k) [
  | inl l ↦ done r l q
  | inr l ↦ (
    λ h. absurd (none_past xs r q (omega (arith, b, l)) h),
    λ h. elim h [ inl x ↦ absurd (none_past first r q (omega (arith, a, l)) x) | inr x ↦ (let p = some r q x in absurd (none_past from r p.0 (omega (arith, c, l)) p.1)) ],
  )
]

-- ---- what is gathered, number by number

abbrev pub Below : (ℕ → Type 0) → ℕ → Type 0
Below P k = (x : ℕ) × (x < k) × P x

module _ (P : ℕ → Type 0) where
  below_none : ¬ Below P 0
  below_none h = absurd (omega (arith, h.1))

  below_more : (k : ℕ) → Below P (k + 1) ↔ (Below P k ⊎ P k)
  below_more k = (
    λ h. elim (before_or_behind h.0 k) [ inl l ↦ inl (h.0, l, h.2) | inr l ↦ inr (let e : h.0 ≡ k = omega (arith, l, h.1) in subst P e h.2) ],
    λ h. elim h [ inl b ↦ (b.0, omega (arith, b.1), b.2) | inr p ↦ (k, omega arith, p) ],
  )

  pub nothing_yet : (here : Type 0) → ¬ here → here ↔ Below P 0
  nothing_yet here n = (λ h. absurd (n h), λ h. absurd (below_none h))

  pub one_more : (k : ℕ) (here new more : Type 0) → here ↔ Below P k → new ↔ P k → more ↔ (here ⊎ new) → more ↔ Below P (k + 1)
  one_more k here new more old is m = (
    λ h. (below_more k).1 (elim (m.0 h) [ inl a ↦ inl (old.0 a) | inr b ↦ inr (is.0 b) ]),
    λ h. m.1 (elim ((below_more k).0 h) [ inl a ↦ inl (old.1 a) | inr b ↦ inr (is.1 b) ]),
  )

  pub none_more : (k : ℕ) (here : Type 0) → here ↔ Below P k → ¬ P k → here ↔ Below P (k + 1)
  none_more k here old n = (λ h. (below_more k).1 (inl (old.0 h)), λ h. elim ((below_more k).0 h) [ inl a ↦ old.1 a | inr b ↦ absurd (n b) ])

  -- the same, beside what was there before
  pub first_with : (here : Type 0) → here ↔ (here ⊎ Below P 0)
  first_with here = (λ h. inl h, λ h. elim h [ inl a ↦ a | inr b ↦ absurd (below_none b) ])

  pub one_with : (k : ℕ) (base here new more : Type 0) → here ↔ (base ⊎ Below P k) → new ↔ P k → more ↔ (here ⊎ new) → more ↔ (base ⊎ Below P (k + 1))
  one_with k base here new more old is m = (
    λ h. elim (m.0 h) [ inl a ↦ elim (old.0 a) [ inl b ↦ inl b | inr b ↦ inr ((below_more k).1 (inl b)) ] | inr b ↦ inr ((below_more k).1 (inr (is.0 b))) ],
    λ h. m.1 (elim h [ inl b ↦ inl (old.1 (inl b)) | inr b ↦ elim ((below_more k).0 b) [ inl a ↦ inl (old.1 (inr a)) | inr p ↦ inr (is.1 p) ] ]),
  )

  pub none_with : (k : ℕ) (base here : Type 0) → here ↔ (base ⊎ Below P k) → ¬ P k → here ↔ (base ⊎ Below P (k + 1))
  none_with k base here old n = (
    λ h. elim (old.0 h) [ inl b ↦ inl b | inr b ↦ inr ((below_more k).1 (inl b)) ],
    λ h. elim h [ inl b ↦ old.1 (inl b) | inr b ↦ elim ((below_more k).0 b) [ inl a ↦ old.1 (inr a) | inr p ↦ absurd (n p) ] ],
  )

-- the same with two facts of each number
module _ (F G : ℕ → Type 0) (k : ℕ) where
  flat : Below (λ x. F x × G x) k ↔ ((x : ℕ) × (x < k) × F x × G x)
  flat = (λ h. (h.0, h.1, h.2.0, h.2.1), λ h. (h.0, h.1, (h.2, h.3)))

  pub as_flat : (here : Type 0) → here ↔ Below (λ x. F x × G x) k → here ↔ ((x : ℕ) × (x < k) × F x × G x)
  as_flat here h = (λ a. flat.0 (h.0 a), λ b. h.1 (flat.1 b))

  pub from_flat : (here : Type 0) → here ↔ ((x : ℕ) × (x < k) × F x × G x) → here ↔ Below (λ x. F x × G x) k
  from_flat here h = (λ a. flat.1 (h.0 a), λ b. h.1 (flat.0 b))

  pub as_flat_with : (base here : Type 0) → here ↔ (base ⊎ Below (λ x. F x × G x) k) → here ↔ (base ⊎ ((x : ℕ) × (x < k) × F x × G x))
  as_flat_with base here h = (λ a. elim (h.0 a) [ inl b ↦ inl b | inr b ↦ inr (flat.0 b) ], λ a. h.1 (elim a [ inl b ↦ inl b | inr b ↦ inr (flat.1 b) ]))

  pub from_flat_with : (base here : Type 0) → here ↔ (base ⊎ ((x : ℕ) × (x < k) × F x × G x)) → here ↔ (base ⊎ Below (λ x. F x × G x) k)
  from_flat_with base here h = (λ a. elim (h.0 a) [ inl b ↦ inl b | inr b ↦ inr (flat.1 b) ], λ a. h.1 (elim a [ inl b ↦ inl b | inr b ↦ inr (flat.0 b) ]))

-- a pair by its parts
pub pair_parts : (x y r q : ℕ) (pair : ℕ × ℕ) → ◌≡◌ {A = ℕ × ℕ} (x, y) pair → ((r ≡ x) × (q ≡ y)) ↔ ◌≡◌ {A = ℕ × ℕ} pair (r, q)
pair_parts x y r q pair e = (
  λ h. sym e ∙ (ap (λ (a : ℕ). (a, y)) (sym h.0) ∙ ap (λ (b : ℕ). (r, b)) (sym h.1)),
  λ h. (let f = e ∙ h in (sym (ap (λ (p : ℕ × ℕ). p.0) f), sym (ap (λ (p : ℕ × ℕ). p.1) f))),
)
