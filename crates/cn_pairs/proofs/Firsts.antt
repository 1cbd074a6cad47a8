-- The first elements of a list for which something holds.
use Rattle.std.proofs.Common.{◌≡◌, ℕ, zero, suc, ◌<◌, ◌≤◌, inl, inr, List, [], ◌∷◌, ◌++◌, length, map, take, Bool, true, false, cond, refl, sym, ap, ◌∙◌, subst, arith, All}
use Rattle.std.specs.List.{AllByRecursion, filter}
use Rattle.std.proofs.lemmas.List.Elements.{All-cons, All-from_recursion, All-head, All-nil, All-tail}
use Rattle.cn_pairs.specs.Firsts.{AreFirstWith}

module _ {X : Type 0} (P : X → Type 0) where
  -- there are none of an empty list
  pub of_nothing : (most : ℕ) → AreFirstWith P most [] []
  of_nothing zero = refl
  of_nothing (suc most) = refl

  -- one element more, for which P holds
  pub first_more : (most : ℕ) (xs found : List X) (x : X) → AreFirstWith P most xs found → P x → length found < most
      → AreFirstWith P most (xs ++ x ∷ []) (found ++ x ∷ [])
  first_more zero xs found x h p l = absurd (omega (arith, l))
  first_more (suc most) [] found x h p l = inl (p, [], ap (λ (ys : List X). ys ++ x ∷ []) h, of_nothing most)
  first_more (suc most) (y ∷ ys) found x h p l = elim h [
    | inl u ↦ inl (u.0, u.1 ++ x ∷ [], ap (λ (zs : List X). zs ++ x ∷ []) u.2, first_more most ys u.1 x u.3 p (omega (arith, l, ap length u.2)))
    | inr u ↦ inr (u.0, first_more (suc most) ys found x u.1 p l)
  ]

  -- or for which it does not hold
  pub first_other : (most : ℕ) (xs found : List X) (x : X) → AreFirstWith P most xs found → (P x → ⊥) → AreFirstWith P most (xs ++ x ∷ []) found
  first_other zero xs found x h other = h
  first_other (suc most) [] found x h other = inr (other, h)
  first_other (suc most) (y ∷ ys) found x h other = elim h [
    | inl u ↦ inl (u.0, u.1, u.2, first_other most ys u.1 x u.3 other)
    | inr u ↦ inr (u.0, first_other (suc most) ys found x u.1 other)
  ]

  -- once there are as many as wanted, the rest tells nothing
  pub first_full : (most : ℕ) (xs found rest : List X) → AreFirstWith P most xs found → most ≤ length found → AreFirstWith P most (xs ++ rest) found
  first_full zero xs found rest h l = h
  first_full (suc most) [] found rest h l = absurd (omega (arith, l, ap length h))
  first_full (suc most) (y ∷ ys) found rest h l = elim h [
    | inl u ↦ inl (u.0, u.1, u.2, first_full most ys u.1 rest u.3 (omega (arith, l, ap length u.2)))
    | inr u ↦ inr (u.0, first_full (suc most) ys found rest u.1 l)
  ]

  none_by_recursion : (most : ℕ) (xs found : List X) → AreFirstWith P (suc most) xs found → found ≡ [] → AllByRecursion (λ x. P x → ⊥) xs
  none_by_recursion most [] found h e = tt
  none_by_recursion most (x ∷ xs) found h e = elim h [
    | inl u ↦ absurd (cc (e, u.2))
    | inr u ↦ (u.0, none_by_recursion most xs found u.1 e)
  ]

  -- if there are none, P holds for no element
  pub none_first : (most : ℕ) (xs found : List X) → AreFirstWith P (suc most) xs found → found ≡ [] → All (λ x. P x → ⊥) xs
  none_first most xs found h e = All-from_recursion (λ x. P x → ⊥) xs (none_by_recursion most xs found h e)

  -- what holds of all elements holds of these
  pub all_first : (Q : X → Type 0) (most : ℕ) (xs found : List X) → AreFirstWith P most xs found → All Q xs → All Q found
  all_first Q zero xs found h all = subst (All Q) (sym h) (All-nil Q)
  all_first Q (suc most) [] found h all = subst (All Q) (sym h) (All-nil Q)
  all_first Q (suc most) (x ∷ xs) found h all = elim h [
    | inl u ↦ subst (All Q) (sym u.2) (All-cons Q x u.1 (All-head Q x xs all) (all_first Q most xs u.1 u.3 (All-tail Q x xs all)))
    | inr u ↦ all_first Q (suc most) xs found u.1 (All-tail Q x xs all)
  ]

  -- there is one such list
  pub one_first : (most : ℕ) (xs a b : List X) → AreFirstWith P most xs a → AreFirstWith P most xs b → a ≡ b
  one_first zero xs a b h k = h ∙ sym k
  one_first (suc most) [] a b h k = h ∙ sym k
  one_first (suc most) (x ∷ xs) a b h k = elim h [
    | inl u ↦ elim k [
      | inl w ↦ u.2 ∙ (ap (λ (rest : List X). x ∷ rest) (one_first most xs u.1 w.1 u.3 w.3) ∙ sym w.2)
      | inr w ↦ absurd (w.0 u.0)
    ]
    | inr u ↦ elim k [
      | inl w ↦ absurd (u.0 w.0)
      | inr w ↦ one_first (suc most) xs a b u.1 w.1
    ]
  ]

-- a test that decides P picks them
module _ {S X : Type 0} (f : S → X) (P : X → Type 0) (test : S → Bool) where
  abbrev pub Tells : S → Type 0
  Tells s = (test s ≡ true → P (f s)) × (test s ≡ false → P (f s) → ⊥)

  take_zero : (xs : List S) → map f (take 0 xs) ≡ []
  take_zero [] = refl
  take_zero (x ∷ xs) = refl

  pub first_by_test : (most : ℕ) (all : List S) → AllByRecursion Tells all → AreFirstWith P most (map f all) (map f (take most (filter test all)))
  first_by_test zero all h = take_zero (filter test all)
  first_by_test (suc most) [] h = refl
  first_by_test (suc most) (s ∷ all) h = by_case (test s) refl (first_by_test most all h.1) (first_by_test (suc most) all h.1)
    where
      by_case : (b : Bool) → test s ≡ b → AreFirstWith P most (map f all) (map f (take most (filter test all)))
          → AreFirstWith P (suc most) (map f all) (map f (take (suc most) (filter test all)))
          → AreFirstWith P (suc most) (f s ∷ map f all) (map f (take (suc most) (cond b (s ∷ filter test all) (filter test all))))
      by_case true e fewer same = inl (h.0.0 e, map f (take most (filter test all)), refl, fewer)
      by_case false e fewer same = inr (h.0.1 e, same)
