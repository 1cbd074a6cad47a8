-- What holds for some number below an end, found number by number.
use Rattle.std.proofs.Common.{ℕ, ◌+◌, ◌<◌, ◌⊎◌, inl, inr, ◌↔◌, arith, subst}
use Rattle.cn_outcomes.proofs.Packing.{below_or_last}

module _ (part : ℕ → Type 0) where
  pub below_first : (here : Type 0) → ¬ here → here ↔ ((k : ℕ) × (k < 0) × part k)
  below_first here n = (λ h. absurd (n h), λ h. absurd (omega (arith, h.1)))

  pub below_more : (end : ℕ) (here new more : Type 0) → here ↔ ((k : ℕ) × (k < end) × part k) → more ↔ (here ⊎ new) → new ↔ part end → more ↔ ((k : ℕ) × (k < end + 1) × part k)
  below_more end here new more h m n = (
    λ x. elim (m.0 x) [ inl a ↦ (let r = h.0 a in (r.0, omega (arith, r.1), r.2)) | inr b ↦ (end, omega arith, n.0 b) ],
    λ x. m.1 (elim (below_or_last x.0 end x.1) [ inl l ↦ inl (h.1 (x.0, l, x.2)) | inr e ↦ inr (n.1 (subst part e x.2)) ]),
  )
