-- What a walk has found, with more.
use Rattle.std.proofs.Common.{◌≡◌, ◌≢◌, ℕ, ◌<◌, ◌⊎◌, inl, inr, ◌↔◌, List, sym, ◌∙◌, subst}
use Rattle.cn_table.specs.TypeTable.{TypeTable}
use Rattle.cn_choice.specs.RawChoices.{RawChoice}
use Rattle.cn_check.specs.Runs.{EndsIn, IsIn, ShowsFrom}
use Rattle.cn_check.specs.WalkedRuns.{AreWalked, HasPair, ends_at}
use Rattle.cn_check.proofs.SetLemmas.{same_or_other}

module _ (t : TypeTable) (c : RawChoice) where
  pub walked_more : (end_sets before after : List ℕ) → ((j r q : ℕ) → HasPair before j r q → HasPair after j r q) → AreWalked t c end_sets before → AreWalked t c end_sets after
  walked_more end_sets before after more w = record { ends = w.ends; shown = λ u s j r q l some h. more j r q (w.shown u s j r q l some h) }

  -- one point more, of which all is known
  pub walked_put : (before after sets : List ℕ) (used state set : ℕ) → ends_at after used state ≡ set → ((u s : ℕ) → s < 16 → (u ≢ used) ⊎ (s ≢ state) → ends_at after u s ≡ ends_at before u s)
      → ((q : ℕ) → IsIn set q ↔ EndsIn t c used state q) → ((j r q : ℕ) → ShowsFrom t c used state j r q → HasPair sets j r q) → AreWalked t c before sets → AreWalked t c after sets
  walked_put before after sets used state set here others ends shown w = record {
    ends = λ u s q l some. elim (point u s) [
      | inl e ↦ ends_here u s q e
      | inr o ↦ subst (λ (x : ℕ). IsIn x q ↔ EndsIn t c u s q) (sym (others u s l o)) (w.ends u s q l (λ z. some (others u s l o ∙ z)))
    ];
    shown = λ u s j r q l some h. elim (point u s) [
      | inl e ↦ shown j r q (subst (λ (x : ℕ). ShowsFrom t c used x j r q) e.1 (subst (λ (x : ℕ). ShowsFrom t c x s j r q) e.0 h))
      | inr o ↦ w.shown u s j r q l (λ z. some (others u s l o ∙ z)) h
    ];
  }
    where
      point : (u s : ℕ) → ((u ≡ used) × (s ≡ state)) ⊎ ((u ≢ used) ⊎ (s ≢ state))
      point u s = elim (same_or_other u used) [ inl a ↦ elim (same_or_other s state) [ inl b ↦ inl (a, b) | inr n ↦ inr (inr n) ] | inr n ↦ inr (inl n) ]

      ends_here : (u s q : ℕ) → (u ≡ used) × (s ≡ state) → IsIn (ends_at after u s) q ↔ EndsIn t c u s q
      ends_here u s q e =
          subst (λ (x : ℕ). IsIn (ends_at after x s) q ↔ EndsIn t c x s q) (sym e.0)
          (subst (λ (x : ℕ). IsIn (ends_at after used x) q ↔ EndsIn t c used x q) (sym e.1) (subst (λ (x : ℕ). IsIn x q ↔ EndsIn t c used state q) (sym here) (ends q)))
