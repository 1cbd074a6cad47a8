-- Lists that have the elements of another, each once, one more at a time.
use Rattle.std.proofs.Common.{◌≡◌, ◌≢◌, ℕ, ◌+◌, ◌<◌, ◌↔◌, ◌⊎◌, inl, inr, List, [], ◌∷◌, ◌++◌, length, get_or, map, take, All, Contains, sym, subst}
use Rattle.std.specs.Prelude.{AllPairs}
use Rattle.std.proofs.lemmas.List.{map-append, take_more}
use Rattle.std.proofs.lemmas.List.Elements.{All-contains, Contains-append_left, Contains-get_or, Contains-push, Contains-push_cases}
use Rattle.cn_unread_reasons.specs.UnreadSights.{HasEachOnce}

module _ {X : Type 0} (xs ys zs : List X) (s : X) (more : (x : X) → Contains zs x ↔ (Contains ys x ⊎ (x ≡ s))) where
  pub each_once_more : (AllPairs (λ x y. x ≢ y) ys → AllPairs (λ x y. x ≢ y) zs) → HasEachOnce xs ys → HasEachOnce (xs ++ s ∷ []) zs
  each_once_more once so_far = record {
    same = λ x. (
      λ here. elim ((more x).0 here) [
        | inl old ↦ Contains-append_left xs (s ∷ []) x ((so_far.same x).0 old)
        | inr is ↦ subst (Contains (xs ++ s ∷ [])) (sym is) (Contains-push xs s)
      ],
      λ listed. (more x).1 (elim (Contains-push_cases xs s x listed) [
        | inl old ↦ inl ((so_far.same x).1 old)
        | inr is ↦ inr (sym is)
      ]),
    );
    once = once so_far.once;
  }

  pub all_more : (P : X → Type 0) → All P ys → P s → All P zs
  all_more P old here k d less = elim ((more (get_or zs k d)).0 (Contains-get_or zs k d less)) [
    | inl there ↦ All-contains P ys (get_or zs k d) old there
    | inr is ↦ subst P (sym is) here
  ]

-- the first i + 1 elements, each under a function
pub map_more : {X Y : Type 0} (f : X → Y) (xs : List X) (i : ℕ) (d : X) → i < length xs → map f (take (i + 1) xs) ≡ map f (take i xs) ++ f (get_or xs i d) ∷ []
map_more f xs i d less = rw (take_more xs i d less) (map-append f (take i xs) (get_or xs i d ∷ []))
