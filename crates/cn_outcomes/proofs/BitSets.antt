-- Sets of small numbers as bits of a number.
use Rattle.std.proofs.Common.{◌≡◌, ◌≢◌, ℕ, suc, ◌+◌, ◌-◌, ◌*◌, ◌^◌, ◌%◌, ◌/◌, ◌<◌, ◌≤◌, ◌⊎◌, inl, inr, ◌↔◌, refl, sym, ap, ◌∙◌, subst, arith, min, max, bit_and, bit_or}
use Rattle.std.specs.Prelude.{IsBitSet, IsTrue}
use Rattle.std.proofs.Common.{Bool, true, false, not, nat_eq, true≢false}
use Rattle.std.proofs.lemmas.Bool.{cases_lt, eqb-true, eq-eqb}
use Rattle.std.specs.Int.{bit_at, w16, trailing_zeros}
use Rattle.std.proofs.lemmas.Nat.{one_shl, or_disjoint, and_le_l}
use Rattle.std.proofs.lemmas.Nat.Bits.{bit_at_or, bit_at_and, bit_at-pow_same, bit_at-pow_other, bit_at-lt, bit_at-zero, same_from_bits, bit_at_clear_same, bit_at_clear_other, bit_at_above, bit_at-suc, bit_at-trailing_zeros, bit_at_not}
use Rattle.cn_outcomes.specs.Subsets.{IsWithout}
use Rattle.cn_outcomes.proofs.LastProcess.{bit_from, set_from, same_or_not, zero_has_none}
pub use Rattle.cn_outcomes.proofs.LastProcess.{by_bit}

pub union_set : (a b q : ℕ) → IsBitSet (bit_or a b) q ↔ (IsBitSet a q ⊎ IsBitSet b q)
union_set a b q = (
  λ s. elim (by_bit a q) [
    | inl e ↦ inr (set_from b q (omega (arith, bit_at_or a b q, bit_from (bit_or a b) q s, bit_at-lt b q)))
    | inr e ↦ inl (set_from a q e)
  ],
  λ h. elim h [
    | inl s ↦ set_from (bit_or a b) q (omega (arith, bit_at_or a b q, bit_from a q s, bit_at-lt b q))
    | inr s ↦ set_from (bit_or a b) q (omega (arith, bit_at_or a b q, bit_from b q s, bit_at-lt a q))
  ],
)

pub pow_set : (k q : ℕ) → IsBitSet (2 ^ k) q → q ≡ k
pow_set k q s = elim (same_or_not q k) [ inl e ↦ e | inr n ↦ absurd (omega (arith, bit_from (2 ^ k) q s, bit_at-pow_other k q n)) ]

pub with_set : (set k q : ℕ) → k < 16 → IsBitSet (bit_or set (1 * 2 ^ k % 2 ^ 16)) q ↔ (IsBitSet set q ⊎ (q ≡ k))
with_set set k q l =
    let one : (1 * 2 ^ k) % 2 ^ 16 ≡ 2 ^ k = one_shl k 16 l in
    subst (λ (m : ℕ). IsBitSet (bit_or set m) q ↔ (IsBitSet set q ⊎ (q ≡ k))) (sym one) (
      λ s. elim ((union_set set (2 ^ k) q).0 s) [ inl a ↦ inl a | inr b ↦ inr (pow_set k q b) ],
      λ h. (union_set set (2 ^ k) q).1 (elim h [ inl a ↦ inl a | inr e ↦ inr (set_from (2 ^ k) q (subst (λ (i : ℕ). bit_at (2 ^ k) i ≡ 1) (sym e) (bit_at-pow_same k))) ]),
    )

-- the subset with the bit cleared
abbrev pub cleared : ℕ → ℕ → ℕ
cleared subset p = bit_and subset (2 ^ 16 - 1 - 1 * 2 ^ p % 2 ^ 16)

pub cleared_same : (subset p : ℕ) → p < 16 → bit_at (cleared subset p) p ≡ 0
cleared_same subset p l = bit_at_clear_same w16 subset p l

pub cleared_other : (subset p i : ℕ) → p < 16 → subset < 2 ^ 16 → i ≢ p → bit_at (cleared subset p) i ≡ bit_at subset i
cleared_other subset p i l u n = by_width (cases_lt i 16)
  where
    by_width : (i < 16) ⊎ (16 ≤ i) → bit_at (cleared subset p) i ≡ bit_at subset i
    by_width (inl h) = bit_at_clear_other w16 subset p l i h n
    by_width (inr h) = omega (arith, bit_at_and subset (2 ^ 16 - 1 - 1 * 2 ^ p % 2 ^ 16) i, bit_at_above subset 16 i u h)

pub cleared_is : (subset p : ℕ) → p < 16 → subset < 2 ^ 16 → IsWithout subset p (cleared subset p)
cleared_is subset p l u i = (
  λ s. elim (same_or_not i p) [
    | inl e ↦ absurd (omega (arith, bit_from (cleared subset p) i s, subst (λ (k : ℕ). bit_at (cleared subset p) k ≡ 0) (sym e) (cleared_same subset p l)))
    | inr n ↦ (set_from subset i (sym (cleared_other subset p i l u n) ∙ bit_from (cleared subset p) i s), n)
  ],
  λ h. set_from (cleared subset p) i (cleared_other subset p i l u h.1 ∙ bit_from subset i h.0),
)

-- the subset without p, together with p, is the subset
pub filled : (subset p rest : ℕ) → IsBitSet subset p → IsWithout subset p rest → bit_or rest (2 ^ p) ≡ subset
filled subset p rest s w = same_from_bits (bit_or rest (2 ^ p)) subset (λ i. bit_at_or rest (2 ^ p) i ∙ each i (same_or_not i p))
  where
    each : (i : ℕ) → (i ≡ p) ⊎ (i ≢ p) → max (bit_at rest i) (bit_at (2 ^ p) i) ≡ bit_at subset i
    each i (inl e) =
        let one : bit_at (2 ^ p) i ≡ 1 = subst (λ (k : ℕ). bit_at (2 ^ p) k ≡ 1) (sym e) (bit_at-pow_same p) in
        let here : bit_at subset i ≡ 1 = subst (λ (k : ℕ). bit_at subset k ≡ 1) (sym e) (bit_from subset p s) in
        omega (arith, one, here, bit_at-lt rest i)
    each i (inr n) = elim (by_bit subset i) [
      | inl z ↦ elim (by_bit rest i) [ inl y ↦ omega (arith, y, z, bit_at-pow_other p i n) | inr o ↦ absurd (omega (arith, z, bit_from subset i ((w i).0 (set_from rest i o)).0)) ]
      | inr o ↦ (let kept = bit_from rest i ((w i).1 (set_from subset i o, n)) in omega (arith, kept, o, bit_at-pow_other p i n))
    ]

-- removing p lowers the number by 2 to the p
pub without_less : (subset p rest : ℕ) → IsBitSet subset p → IsWithout subset p rest → rest + 2 ^ p ≡ subset
without_less subset p rest s w =
    let apart : bit_and rest (2 ^ p) ≡ 0 = same_from_bits (bit_and rest (2 ^ p)) 0 (λ i. bit_at_and rest (2 ^ p) i ∙ (none i (same_or_not i p) ∙ sym (bit_at-zero i))) in
    sym (or_disjoint rest (2 ^ p) apart) ∙ filled subset p rest s w
  where
    none : (i : ℕ) → (i ≡ p) ⊎ (i ≢ p) → min (bit_at rest i) (bit_at (2 ^ p) i) ≡ 0
    none i (inl e) = elim (by_bit rest i) [ inl z ↦ omega (arith, z) | inr o ↦ absurd (((w i).0 (set_from rest i o)).1 e) ]
    none i (inr n) = omega (arith, bit_at-pow_other p i n)

-- two numbers that are the subset without p are equal
pub without_one : (subset p a b : ℕ) → IsBitSet subset p → IsWithout subset p a → IsWithout subset p b → a ≡ b
without_one subset p a b s v w = omega (arith, without_less subset p a s v, without_less subset p b s w)

pub member_below : (k set q : ℕ) → set < 2 ^ k → IsBitSet set q → q < k
member_below k set q l s = elim (cases_lt q k) [ inl h ↦ h | inr h ↦ absurd (omega (arith, bit_at_above set k q l h, bit_from set q s)) ]

-- the numbers of both sets
pub intersection_set : (a b q : ℕ) → IsBitSet (bit_and a b) q ↔ (IsBitSet a q × IsBitSet b q)
intersection_set a b q = (
  λ s. (
    set_from a q (omega (arith, bit_from (bit_and a b) q s, bit_at_and a b q, bit_at-lt a q, bit_at-lt b q)),
    set_from b q (omega (arith, bit_from (bit_and a b) q s, bit_at_and a b q, bit_at-lt a q, bit_at-lt b q)),
  ),
  λ h. set_from (bit_and a b) q (omega (arith, bit_at_and a b q, bit_from a q h.0, bit_from b q h.1)),
)

-- the sets have a common number exactly if their intersection is not 0
pub common_some : (a b : ℕ) → a < 2 ^ 16 → bit_and a b ≢ 0 → (q : ℕ) × IsBitSet a q × IsBitSet b q
common_some a b l n =
    let less : bit_and a b < 2 ^ 16 = omega (arith, l, and_le_l a b) in
    let some : 0 < bit_and a b = omega arith in
    let q = trailing_zeros w16 (bit_and a b) in
    let both = (intersection_set a b q).0 (set_from (bit_and a b) q (bit_at-trailing_zeros w16 (bit_and a b) some less).1) in
    (q, both.0, both.1)

pub common_none : (a b q : ℕ) → bit_and a b ≡ 0 → IsBitSet a q → IsBitSet b q → ⊥
common_none a b q e s u = zero_has_none q (subst (λ (n : ℕ). IsBitSet n q) e ((intersection_set a b q).1 (s, u)))

pub shared : (a b : ℕ) → a < 2 ^ 16 → IsTrue (not (nat_eq (bit_and a b) 0)) ↔ ((q : ℕ) × IsBitSet a q × IsBitSet b q)
shared a b l = cases (nat_eq (bit_and a b) 0) refl
  where
    cases : (e : Bool) → nat_eq (bit_and a b) 0 ≡ e → IsTrue (not e) ↔ ((q : ℕ) × IsBitSet a q × IsBitSet b q)
    cases true e = (λ t. absurd (true≢false (sym t)), λ h. absurd (common_none a b h.0 (eqb-true (bit_and a b) 0 e) h.1 h.2))
    cases false e = (λ t. common_some a b l (λ z. true≢false (sym (eq-eqb (bit_and a b) 0 z) ∙ e)), λ h. refl)

-- the numbers of a that are not in b
pub difference_set : (a b q : ℕ) → a < 2 ^ 16 → b < 2 ^ 16 → IsBitSet (bit_and a (2 ^ 16 - 1 - b)) q ↔ (IsBitSet a q × ¬ IsBitSet b q)
difference_set a b q l u = (
  λ s.
      let one : bit_at a q ≡ 1 = omega (arith, bit_at_and a (2 ^ 16 - 1 - b) q, bit_from (bit_and a (2 ^ 16 - 1 - b)) q s, bit_at-lt a q, bit_at-lt (2 ^ 16 - 1 - b) q) in
      let here = set_from a q one in
      let inside = member_below 16 a q l here in
      (here, λ m. absurd (omega (arith, bit_at_and a (2 ^ 16 - 1 - b) q, bit_from (bit_and a (2 ^ 16 - 1 - b)) q s, bit_at_not w16 b q u inside, bit_from b q m))),
  λ h.
      let inside = member_below 16 a q l h.0 in
      set_from (bit_and a (2 ^ 16 - 1 - b)) q (omega (arith, bit_at_and a (2 ^ 16 - 1 - b) q, bit_from a q h.0, bit_at_not w16 b q u inside, clear h.1)),
)
  where
    clear : ¬ IsBitSet b q → bit_at b q ≡ 0
    clear n = elim (by_bit b q) [ inl e ↦ e | inr e ↦ absurd (n (set_from b q e)) ]

-- the numbers of both sets, each less one
pub common_predecessors_set : (a b q : ℕ) → IsBitSet (bit_and a b / 2) q ↔ (IsBitSet a (q + 1) × IsBitSet b (q + 1))
common_predecessors_set a b q =
    let next : suc q ≡ q + 1 = omega arith in
    let moved : bit_at (bit_and a b / 2) q ≡ bit_at (bit_and a b) (q + 1) = sym (bit_at-suc (bit_and a b) q) ∙ ap (bit_at (bit_and a b)) next in
    let both = intersection_set a b (q + 1) in (
      λ s. both.0 (set_from (bit_and a b) (q + 1) (sym moved ∙ bit_from (bit_and a b / 2) q s)),
      λ h. set_from (bit_and a b / 2) q (moved ∙ bit_from (bit_and a b) (q + 1) (both.1 h)),
    )
