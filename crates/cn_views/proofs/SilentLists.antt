-- Lists of the silent operations below a number.
use Rattle.std.proofs.Common.{◌≡◌, ℕ, ◌+◌, ◌<◌, ◌≤◌, ◌↔◌, inl, inr, List, [], ◌∷◌, ◌++◌, length, get_or, subst, arith, Contains, AllPairs}
use Rattle.std.proofs.lemmas.Bool.{cases_lt}
use Rattle.std.proofs.lemmas.List.Elements.{Contains-append_left, Contains-get_or, Contains-push, Contains-push_cases}
use Rattle.std.proofs.lemmas.List.Quantifiers.{all_pairs_push}
use Rattle.cn_table.specs.TypeTable.{TypeTable}
use Rattle.cn_unread.specs.Views.{IsSilent}
use Rattle.cn_views.specs.SilentOperations.{AreSilentOperations}

module _ (t : TypeTable) where
  -- the list has the silent operations below o
  abbrev pub HasSilent : ℕ → List ℕ → Type 0
  HasSilent o list = (v : ℕ) → Contains list v ↔ ((v < o) × IsSilent t v)

  abbrev pub Ascends : List ℕ → Type 0
  Ascends list = AllPairs (λ (v w : ℕ). v < w) list

  pub none_silent : HasSilent 0 []
  none_silent v = (λ h. absurd (omega (arith, h.1)), λ h. absurd (omega (arith, h.0)))

  pub one_more : (o : ℕ) (list : List ℕ) → IsSilent t o → HasSilent o list → HasSilent (o + 1) (list ++ o ∷ [])
  one_more o list silent all v = (
    λ h. elim (Contains-push_cases list o v h) [
      | inl old ↦ (let r = (all v).0 old in (omega (arith, r.0), r.1))
      | inr e ↦ (omega (arith, e), subst (IsSilent t) e silent)
    ],
    λ h. elim (cases_lt v o) [
      | inl less ↦ Contains-append_left list (o ∷ []) v ((all v).1 (less, h.1))
      | inr more ↦ (let e : o ≡ v = omega (arith, h.0, more) in subst (Contains (list ++ o ∷ [])) e (Contains-push list o))
    ],
  )

  pub left_out : (o : ℕ) (list : List ℕ) → ¬ IsSilent t o → HasSilent o list → HasSilent (o + 1) list
  left_out o list none all v = (
    λ h. (let r = (all v).0 h in (omega (arith, r.0), r.1)),
    λ h. elim (cases_lt v o) [
      | inl less ↦ (all v).1 (less, h.1)
      | inr more ↦ (let e : v ≡ o = omega (arith, h.0, more) in absurd (none (subst (IsSilent t) e h.1)))
    ],
  )

  pub ascends_more : (o : ℕ) (list : List ℕ) → HasSilent o list → Ascends list → Ascends (list ++ o ∷ [])
  ascends_more o list all ascends =
      all_pairs_push (λ (v w : ℕ). v < w) list o ascends (λ k d l. ((all (get_or list k d)).0 (Contains-get_or list k d l)).0)

  pub all_silent : (o : ℕ) (list : List ℕ) → length t.operations ≤ o → HasSilent o list → Ascends list → AreSilentOperations t list
  all_silent o list last all ascends = record {
    listed = λ v. (λ h. ((all v).0 h).1, λ s. (all v).1 (omega (arith, s.known, last), s));
    ascending = ascends;
  }
