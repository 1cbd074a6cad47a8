-- Searches among the numbers below a bound.
use Rattle.std.proofs.Common.{ℕ, zero, suc, ◌<◌, ◌⊎◌, inl, inr, sym, subst, arith}
use Rattle.cn_outcomes.proofs.Packing.{below_or_last}

-- some number below the end is of the one kind, or all are of the other
pub some_or_all : (end : ℕ) (P Q : ℕ → Type 0) → ((i : ℕ) → i < end → P i ⊎ Q i) → ((i : ℕ) × (i < end) × P i) ⊎ ((i : ℕ) → i < end → Q i)
some_or_all zero P Q d = inr (λ i l. absurd (omega (arith, l)))
some_or_all (suc end) P Q d = elim (some_or_all end P Q (λ i l. d i (omega (arith, l)))) [
  | inl r ↦ inl (r.0, omega (arith, r.1), r.2)
  | inr all ↦ elim (d end (omega arith)) [
    | inl p ↦ inl (end, omega arith, p)
    | inr q ↦ inr (λ i l. elim (below_or_last i end (omega (arith, l))) [ inl u ↦ all i u | inr e ↦ subst Q (sym e) q ])
  ]
]
