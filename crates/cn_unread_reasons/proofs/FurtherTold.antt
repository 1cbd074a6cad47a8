-- What processes get by further operations, as it is told.
use Rattle.std.proofs.Common.{◌≡◌, ◌≢◌, ℕ, ◌+◌, ◌<◌, ◌↔◌, ◌⊎◌, inl, inr, List, [], ◌∷◌, length, get_or, take, Contains, sym, subst, ◌∙◌}
use Rattle.std.specs.Prelude.{AllPairs}
use Rattle.std.proofs.lemmas.List.{take_more}
use Rattle.std.proofs.lemmas.List.Elements.{Contains-append_left, Contains-push, Contains-push_cases}
use Rattle.cn_table.specs.TypeTable.{TypeTable}
use Rattle.cn_choice.specs.Canonical.{Choice}
use Rattle.cn_choice.specs.declared.team.Team.{Team}
use Rattle.cn_further.specs.FurtherSights.{AreFurtherSights}
use Rattle.cn_further.specs.declared.follow_up.FollowUp.{FollowUp}
use Rattle.cn_further.specs.declared.sight.FurtherSight.{FurtherSight}
use Rattle.cn_unread_reasons.specs.FurtherViews.{AreFurtherSightsOf, IsToldOf, further_sight}
use Rattle.cn_unread_reasons.specs.declared.sight.UnreadSight.{UnreadSight}

module _ (xs : List FurtherSight) (i : ℕ) (d : FurtherSight) (l : i < length xs) (team : Team) (j : ℕ) where
  old_more : (s : UnreadSight) → IsToldOf (take i xs) team j s → IsToldOf (take (i + 1) xs) team j s
  old_more s h = (h.0, subst (λ (ys : List FurtherSight). Contains ys h.0) (sym (take_more xs i d l)) (Contains-append_left (take i xs) (get_or xs i d ∷ []) h.0 h.1), h.2, h.3, h.4)

  cases : (s : UnreadSight) → IsToldOf (take (i + 1) xs) team j s
      → IsToldOf (take i xs) team j s ⊎ (((get_or xs i d).process ≡ j) × ((get_or xs i d).first ≡ team) × (further_sight (get_or xs i d) ≡ s))
  cases s h = elim (Contains-push_cases (take i xs) (get_or xs i d) h.0 (subst (λ (ys : List FurtherSight). Contains ys h.0) (take_more xs i d l) h.1)) [
    | inl old ↦ inl (h.0, old, h.2, h.3, h.4)
    | inr is ↦ inr (subst (λ (r : FurtherSight). (r.process ≡ j) × (r.first ≡ team) × (further_sight r ≡ s)) (sym is) (h.2, h.3, h.4))
  ]

  -- one more that is of the process
  pub told_more : (ys zs : List UnreadSight) (new : UnreadSight)
      → ((s : UnreadSight) → Contains zs s ↔ (Contains ys s ⊎ (s ≡ new)))
      → (get_or xs i d).process ≡ j → (get_or xs i d).first ≡ team → new ≡ further_sight (get_or xs i d)
      → ((s : UnreadSight) → Contains ys s ↔ IsToldOf (take i xs) team j s)
      → (s : UnreadSight) → Contains zs s ↔ IsToldOf (take (i + 1) xs) team j s
  told_more ys zs new more p f is same s = (
    λ h. elim ((more s).0 h) [
      | inl old ↦ old_more s ((same s).0 old)
      | inr e ↦ (get_or xs i d, subst (λ (us : List FurtherSight). Contains us (get_or xs i d)) (sym (take_more xs i d l)) (Contains-push (take i xs) (get_or xs i d)), p, f, sym is ∙ sym e)
    ],
    λ h. (more s).1 (elim (cases s h) [
      | inl old ↦ inl ((same s).1 old)
      | inr at ↦ inr (sym at.2 ∙ sym is)
    ]),
  )

  -- one more that is not
  pub told_same : (ys : List UnreadSight)
      → (((get_or xs i d).process ≡ j) × ((get_or xs i d).first ≡ team) → ⊥)
      → ((s : UnreadSight) → Contains ys s ↔ IsToldOf (take i xs) team j s)
      → (s : UnreadSight) → Contains ys s ↔ IsToldOf (take (i + 1) xs) team j s
  told_same ys other same s = (
    λ h. old_more s ((same s).0 h),
    λ h. elim (cases s h) [
      | inl old ↦ (same s).1 old
      | inr at ↦ absurd (other (at.0, at.1))
    ],
  )

pub told_sights : (t : TypeTable) (c : Choice) (fs : List FollowUp) (all : List FurtherSight) (team : Team) (j : ℕ) (list : List UnreadSight)
    → AreFurtherSights t c fs all → ((s : UnreadSight) → Contains list s ↔ IsToldOf all team j s) → AllPairs (λ x y. x ≢ y) list
    → AreFurtherSightsOf t fs c team j list
told_sights t c fs all team j list are same once = record {
  same = λ s. (
    λ h. let x = (same s).0 h in (x.0, (are.same x.0).0 x.1, x.2, x.3, x.4),
    λ h. (same s).1 (h.0, (are.same h.0).1 h.1, h.2, h.3, h.4),
  );
  once = once;
}
