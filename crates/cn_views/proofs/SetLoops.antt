-- Loops that put numbers into a set, one after the other.
use Rattle.std.proofs.Common.{◌≡◌, ℕ, ◌+◌, ◌<◌, ◌⊎◌, ◌↔◌, inl, inr, sym, subst, arith}
use Rattle.std.specs.Prelude.{IsBitSet}
use Rattle.std.proofs.lemmas.Bool.{cases_lt}

-- the set has the numbers below k with the property
abbrev pub HasBelow : (ℕ → Type 0) → ℕ → ℕ → Type 0
HasBelow P k numbers = (q : ℕ) → IsBitSet numbers q ↔ ((q < k) × P q)

pub number_in : (P : ℕ → Type 0) (k old new : ℕ) → P k → ((q : ℕ) → IsBitSet new q ↔ (IsBitSet old q ⊎ (q ≡ k))) → HasBelow P k old → HasBelow P (k + 1) new
number_in P k old new holds more so_far q = (
  λ h. elim ((more q).0 h) [
    | inl there ↦ (let r = (so_far q).0 there in (omega (arith, r.0), r.1))
    | inr e ↦ (omega (arith, e), subst P (sym e) holds)
  ],
  λ h. elim (cases_lt q k) [
    | inl less ↦ (more q).1 (inl ((so_far q).1 (less, h.1)))
    | inr above ↦ (more q).1 (inr (omega (arith, above, h.0)))
  ],
)

pub number_out : (P : ℕ → Type 0) (k old : ℕ) → ¬ P k → HasBelow P k old → HasBelow P (k + 1) old
number_out P k old fails so_far q = (
  λ h. (let r = (so_far q).0 h in (omega (arith, r.0), r.1)),
  λ h. elim (cases_lt q k) [
    | inl less ↦ (so_far q).1 (less, h.1)
    | inr above ↦ (let e : q ≡ k = omega (arith, above, h.0) in absurd (fails (subst P e h.1)))
  ],
)

pub number_end : (P : ℕ → Type 0) (k n all : ℕ) → k ≡ n → HasBelow P k all → HasBelow P n all
number_end P k n all e so_far = subst (λ (m : ℕ). HasBelow P m all) e so_far
