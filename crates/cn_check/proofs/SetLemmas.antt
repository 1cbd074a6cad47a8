-- Sets of small numbers, as the bits of a number, and rows of sets.
use Rattle.std.proofs.Common.{◌≡◌, ◌≢◌, ℕ, zero, suc, ◌^◌, ◌<◌, ◌⊎◌, inl, inr, ◌↔◌, refl, sym, ap, ◌∙◌, subst, arith, bit_and, bit_or, get_or, replicate, Bool, true, false, not, nat_eq, true≢false}
use Rattle.std.specs.Prelude.{IsTrue}
use Rattle.std.specs.Int.{bit_at, w16, trailing_zeros}
use Rattle.std.proofs.Math.Nat.{eq-or-lt_of_le}
use Rattle.std.proofs.lemmas.Bool.{eqb-true, eq-eqb}
use Rattle.std.proofs.lemmas.Nat.{and_le_l, le_or_l}
use Rattle.std.proofs.lemmas.Nat.Bits.{bit_at_and, bit_at_or, bit_at-lt, bit_at-pow_same, bit_at-pow_other, bit_at-trailing_zeros, bit_at-zero}
use Rattle.cn_check.specs.Runs.{IsIn, with_mover}

by_bit : (n k : ℕ) → (bit_at n k ≡ 0) ⊎ (bit_at n k ≡ 1)
by_bit n k = cases (bit_at n k) refl (bit_at-lt n k)
  where
    cases : (b : ℕ) → bit_at n k ≡ b → b < 2 → (bit_at n k ≡ 0) ⊎ (bit_at n k ≡ 1)
    cases zero e l = inl e
    cases (suc zero) e l = inr e
    cases (suc (suc b)) e l = absurd (omega arith)

pub same_or_other : (a b : ℕ) → (a ≡ b) ⊎ (a ≢ b)
same_or_other a b = cases (nat_eq a b) refl
  where
    cases : (e : Bool) → nat_eq a b ≡ e → (a ≡ b) ⊎ (a ≢ b)
    cases true e = inl (eqb-true a b e)
    cases false e = inr (λ s. true≢false (sym (eq-eqb a b s) ∙ e))

pub none_in_0 : (q : ℕ) → ¬ IsIn 0 q
none_in_0 q h = absurd (omega (arith, h, bit_at-zero q))

-- no number is in the empty sets
pub zero_at : (n k : ℕ) → get_or {A = ℕ} (replicate n 0) k 0 ≡ 0
zero_at zero k = refl
zero_at (suc n) zero = refl
zero_at (suc n) (suc k) = zero_at n k

pub none_at : (n k q : ℕ) → ¬ IsIn (get_or {A = ℕ} (replicate n 0) k 0) q
none_at n k q h = none_in_0 q (subst (λ (x : ℕ). IsIn x q) (zero_at n k) h)

pub in_either : (a b q : ℕ) → IsIn (bit_or a b) q ↔ (IsIn a q ⊎ IsIn b q)
in_either a b q = (
  λ h. elim (by_bit a q) [
    | inl e ↦ inr (omega (arith, bit_at_or a b q, h, e, bit_at-lt b q))
    | inr e ↦ inl e
  ],
  λ h. elim h [
    | inl e ↦ omega (arith, bit_at_or a b q, e, bit_at-lt b q)
    | inr e ↦ omega (arith, bit_at_or a b q, e, bit_at-lt a q)
  ],
)

pub in_pow : (k q : ℕ) → IsIn (2 ^ k) q ↔ (q ≡ k)
in_pow k q = (
  λ h. elim (same_or_other q k) [ inl e ↦ e | inr n ↦ absurd (omega (arith, h, bit_at-pow_other k q n)) ],
  λ e. subst (λ (i : ℕ). bit_at (2 ^ k) i ≡ 1) (sym e) (bit_at-pow_same k),
)

common_some : (a b : ℕ) → a < 2 ^ 16 → bit_and a b ≢ 0 → (q : ℕ) × IsIn a q × IsIn b q
common_some a b l n =
    let less : bit_and a b < 2 ^ 16 = omega (arith, l, and_le_l a b) in
    let some : 0 < bit_and a b = omega arith in
    let first = bit_at-trailing_zeros w16 (bit_and a b) some less in
    let q = trailing_zeros w16 (bit_and a b) in
    (q, omega (arith, first.1, bit_at_and a b q, bit_at-lt a q), omega (arith, first.1, bit_at_and a b q, bit_at-lt b q))

common_none : (a b q : ℕ) → bit_and a b ≡ 0 → IsIn a q → IsIn b q → ⊥
common_none a b q e s u = absurd (omega (arith, bit_at_and a b q, s, u, ap (λ (n : ℕ). bit_at n q) e, bit_at-zero q))

pub in_both : (a b : ℕ) → a < 2 ^ 16 → IsTrue (not (nat_eq (bit_and a b) 0)) ↔ ((q : ℕ) × IsIn a q × IsIn b q)
in_both a b l = cases (nat_eq (bit_and a b) 0) refl
  where
    cases : (e : Bool) → nat_eq (bit_and a b) 0 ≡ e → IsTrue (not e) ↔ ((q : ℕ) × IsIn a q × IsIn b q)
    cases true e = (λ t. absurd (true≢false (sym t)), λ h. absurd (common_none a b h.0 (eqb-true (bit_and a b) 0 e) h.1 h.2))
    cases false e = (λ t. common_some a b l (λ z. true≢false (sym (eq-eqb (bit_and a b) 0 z) ∙ e)), λ h. refl)

-- ---- those that have moved

pub moved_same : (used p : ℕ) → IsIn (with_mover used p) p
moved_same used p = (in_either used (2 ^ p) p).1 (inr ((in_pow p p).1 refl))

pub moved_before : (used p q : ℕ) → IsIn used q → IsIn (with_mover used p) q
moved_before used p q h = (in_either used (2 ^ p) q).1 (inl h)

pub moved_other : (used p q : ℕ) → q ≢ p → IsIn (with_mover used p) q → IsIn used q
moved_other used p q other h = elim ((in_either used (2 ^ p) q).0 h) [ inl a ↦ a | inr b ↦ absurd (other ((in_pow p q).0 b)) ]

-- with one more the number is greater
pub moved_more : (used p : ℕ) → ¬ IsIn used p → used < with_mover used p
moved_more used p none = by_order (eq-or-lt_of_le (le_or_l used (2 ^ p)))
  where
    by_order : (used ≡ with_mover used p) ⊎ (used < with_mover used p) → used < with_mover used p
    by_order (inl same) = absurd (none (subst (λ (n : ℕ). IsIn n p) (sym same) (moved_same used p)))
    by_order (inr less) = less
