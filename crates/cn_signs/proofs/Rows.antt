-- Which responses operations get in states of a set.
use Rattle.std.proofs.Common.{◌≡◌, ℕ, ◌+◌, ◌<◌, ◌≤◌, ◌⊎◌, ◌↔◌, inl, inr, sym, subst, arith}
use Rattle.std.specs.Prelude.{IsBitSet}
use Rattle.std.proofs.lemmas.Bool.{cases_lt}
use Rattle.cn_table.specs.TypeTable.{TypeTable, transition}
use Rattle.cn_outcomes.specs.Subsets.{Below}
use Rattle.cn_signs.specs.SignChecks.{Answers}

-- the responses in the states below k
abbrev pub HasResponses : TypeTable → ℕ → ℕ → ℕ → ℕ → Type 0
HasResponses t o states k responses = (r : ℕ) → IsBitSet responses r ↔ Answers t o (λ q. (q < k) × IsBitSet states q) r

module _ (t : TypeTable) (o states k : ℕ) where
  pub response_in : (old new : ℕ) → IsBitSet states k → ((r : ℕ) → IsBitSet new r ↔ (IsBitSet old r ⊎ (r ≡ (transition t o k).0))) → HasResponses t o states k old
      → HasResponses t o states (k + 1) new
  response_in old new here more so_far r = (
    λ h. elim ((more r).0 h) [
      | inl there ↦ (let f = (so_far r).0 there in (f.0, (omega (arith, f.1.0), f.1.1), f.2))
      | inr e ↦ (k, (omega arith, here), sym e)
    ],
    λ f. elim (cases_lt f.0 k) [
      | inl less ↦ (more r).1 (inl ((so_far r).1 (f.0, (less, f.1.1), f.2)))
      | inr above ↦ (let e : f.0 ≡ k = omega (arith, above, f.1.0) in (more r).1 (inr (subst (λ (q : ℕ). r ≡ (transition t o q).0) e (sym f.2))))
    ],
  )

  pub response_out : (old : ℕ) → ¬ IsBitSet states k → HasResponses t o states k old → HasResponses t o states (k + 1) old
  response_out old none so_far r = (
    λ h. (let f = (so_far r).0 h in (f.0, (omega (arith, f.1.0), f.1.1), f.2)),
    λ f. elim (cases_lt f.0 k) [
      | inl less ↦ (so_far r).1 (f.0, (less, f.1.1), f.2)
      | inr above ↦ (let e : f.0 ≡ k = omega (arith, above, f.1.0) in absurd (none (subst (IsBitSet states) e f.1.1)))
    ],
  )

  pub all_responses : (responses n : ℕ) → n ≤ k → Below n states → HasResponses t o states k responses → (r : ℕ) → IsBitSet responses r ↔ Answers t o (IsBitSet states) r
  all_responses responses n last known so_far r = (
    λ h. (let f = (so_far r).0 h in (f.0, f.1.1, f.2)),
    λ f. (so_far r).1 (f.0, (omega (arith, last, known f.0 f.1), f.1), f.2),
  )

-- the responses in states with a property that are not those in states with another one
pub only_here : (t : TypeTable) (o own others here there left : ℕ) (P Q : ℕ → Type 0) → ((q : ℕ) → IsBitSet own q ↔ P q) → ((q : ℕ) → IsBitSet others q ↔ Q q)
    → ((r : ℕ) → IsBitSet here r ↔ Answers t o (IsBitSet own) r) → ((r : ℕ) → IsBitSet there r ↔ Answers t o (IsBitSet others) r)
    → ((r : ℕ) → IsBitSet left r ↔ (IsBitSet here r × ¬ IsBitSet there r)) → (r : ℕ) → IsBitSet left r ↔ (Answers t o P r × ¬ Answers t o Q r)
only_here t o own others here there left P Q p q a b less r = (
  λ h.
      let both = (less r).0 h in
      let f = (a r).0 both.0 in
      ((f.0, (p f.0).0 f.1, f.2), λ g. both.1 ((b r).1 (g.0, (q g.0).1 g.1, g.2))),
  λ h. (less r).1 ((a r).1 (h.0.0, (p h.0.0).1 h.0.1, h.0.2), λ s. (let g = (b r).0 s in h.1 (g.0, (q g.0).0 g.1, g.2))),
)
