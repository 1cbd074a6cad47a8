-- The elements that a filter keeps of a list.
use Rattle.std.proofs.Common.{◌≡◌, ◌∙◌, inl, inr, List, [], ◌∷◌, refl, sym, ap, Bool, true, false, cond, true≢false}
use Rattle.std.specs.List.{AllByRecursion, filter}
use Rattle.cn_choice.proofs.ListLemmas.Members.{IsIn, Pairs, each_at, each_from}

module _ {X : Type 0} (p : X → Bool) where
  pub kept : (x : X) (xs : List X) → IsIn x xs → p x ≡ true → IsIn x (filter p xs)
  kept x [] i e = absurd i
  kept x (y ∷ xs) i e = by_test (p y) refl (λ later. kept x xs later e)
    where
      by_test : (b : Bool) → p y ≡ b → (IsIn x xs → IsIn x (filter p xs)) → IsIn x (cond b (y ∷ filter p xs) (filter p xs))
      by_test true f rest = elim i [ inl same ↦ inl same | inr later ↦ inr (rest later) ]
      by_test false f rest = elim i [ inl same ↦ absurd (true≢false (sym e ∙ (ap p (sym same) ∙ f))) | inr later ↦ rest later ]

  pub was_in : (x : X) (xs : List X) → IsIn x (filter p xs) → IsIn x xs × (p x ≡ true)
  was_in x [] i = absurd i
  was_in x (y ∷ xs) i = by_test (p y) refl (was_in x xs) i
    where
      by_test : (b : Bool) → p y ≡ b → (IsIn x (filter p xs) → IsIn x xs × (p x ≡ true)) → IsIn x (cond b (y ∷ filter p xs) (filter p xs)) → IsIn x (y ∷ xs) × (p x ≡ true)
      by_test true f rest h = elim h [ inl same ↦ (inl same, ap p (sym same) ∙ f) | inr later ↦ (let r = rest later in (inr r.0, r.1)) ]
      by_test false f rest h = let r = rest h in (inr r.0, r.1)

  pub pairs_kept : (R : X → X → Type 0) (xs : List X) → Pairs R xs → Pairs R (filter p xs)
  pairs_kept R [] h = tt
  pairs_kept R (y ∷ xs) h = by_test (p y) (each_from (R y) (filter p xs) (λ z i. each_at (R y) xs z h.0 (was_in z xs i).0)) (pairs_kept R xs h.1)
    where
      by_test : (b : Bool) → AllByRecursion (R y) (filter p xs) → Pairs R (filter p xs) → Pairs R (cond b (y ∷ filter p xs) (filter p xs))
      by_test true each rest = (each, rest)
      by_test false each rest = rest
