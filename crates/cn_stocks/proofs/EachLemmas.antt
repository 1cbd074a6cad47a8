-- What holds of each element of a list, by its place.
use Rattle.std.proofs.Common.{◌≡◌, ℕ, zero, suc, ◌+◌, ◌<◌, inl, inr, List, [], ◌∷◌, ◌++◌, length, get_or, refl, sym, ap, ◌∙◌, subst, arith, Some}
use Rattle.std.specs.Prelude.{slice_get}
use Rattle.std.specs.List.{AllZip, range_with_len}
use Rattle.std.proofs.lemmas.Option.{none-some, same_Some, slice_get_read}
use Rattle.cn_stocks.proofs.StockLemmas.{before_or_behind, count_push, get_before, get_behind}
use Rattle.cn_stocks.specs.Each.{EachAt}

module _ {X : Type 0} (P : ℕ → X → Type 0) where
  pub each_none : (xs : List X) → xs ≡ [] → EachAt P 0 xs
  each_none xs e = subst (λ (ys : List X). EachAt P 0 ys) (sym e) (refl, λ i x h. absurd (none-some x h))

  last : (x : X) (n k i : ℕ) (y : X) → n + k ≡ i → P n x → slice_get (x ∷ []) k ≡ Some y → P i y
  last x n zero i y e p h = let same : n ≡ i = omega (arith, e) in subst (λ (j : ℕ). P j y) same (subst (λ (z : X). P n z) (same_Some x y h) p)
  last x n (suc k) i y e p h = absurd (none-some y h)

  -- one more at the end
  pub each_push : (xs new : List X) (x : X) (n : ℕ) → new ≡ xs ++ x ∷ [] → EachAt P n xs → P n x → EachAt P (n + 1) new
  each_push xs new x n e each p = (count_push xs new x n e each.0, λ i y h. at i y (subst (λ (ys : List X). slice_get ys i ≡ Some y) e h))
    where
      at : (i : ℕ) (y : X) → slice_get (xs ++ x ∷ []) i ≡ Some y → P i y
      at i y h = elim (before_or_behind i (length xs)) [
        | inl l ↦ each.1 i y (sym (get_before xs (x ∷ []) i l) ∙ h)
        | inr l ↦ (let k = get_behind xs (x ∷ []) i l in last x n k.0 i y (omega (arith, k.1, each.0)) p (sym k.2 ∙ h))
      ]

  -- what is read
  pub each_read : (xs : List X) (n i : ℕ) (x : X) → EachAt P n xs → i < n → x ≡ get_or xs i x → P i x
  each_read xs n i x each l e = each.1 i x (slice_get_read xs (length xs) i x refl (omega (arith, l, each.0)) e)

-- what holds beside each number of a range
module _ {X : Type 0} (P : ℕ → X → Type 0) where
  from : (a n : ℕ) (xs : List X) → AllZip P (range_with_len a n) xs → EachAt (λ i x. P (a + i) x) n xs
  from a zero [] h = (refl, λ i x e. absurd (none-some x e))
  from a zero (x ∷ xs) h = absurd h
  from a (suc n) [] h = absurd h
  from a (suc n) (x ∷ xs) h = let rest = from (a + 1) n xs h.1 in (ap suc rest.0, at rest.1)
    where
      at : ((i : ℕ) (y : X) → slice_get xs i ≡ Some y → P (a + 1 + i) y) → (i : ℕ) (y : X) → slice_get (x ∷ xs) i ≡ Some y → P (a + i) y
      at rest zero y e = let same : a ≡ a + 0 = omega arith in subst (λ (j : ℕ). P j y) same (subst (λ (z : X). P a z) (same_Some x y e) h.0)
      at rest (suc i) y e = let same : a + 1 + i ≡ a + suc i = omega arith in subst (λ (j : ℕ). P j y) same (rest i y e)

  pub each_of_range : (n : ℕ) (xs : List X) → AllZip P (range_with_len 0 n) xs → EachAt P n xs
  each_of_range n xs h = let all = from 0 n xs h in (all.0, λ i x e. (let same : 0 + i ≡ i = omega arith in subst (λ (j : ℕ). P j x) same (all.1 i x e)))
