-- Joins for each number below a bound, and for each list of one length, in one list.
use Rattle.std.proofs.Common.{◌≡◌, ℕ, zero, suc, ◌<◌, inl, inr, List, [], ◌∷◌, ◌++◌, length, refl, subst, arith, All}
use Rattle.std.proofs.lemmas.List.Elements.{All-append, All-nil}
use Rattle.cn_stocks.specs.Words.{IsKnown}
use Rattle.cn_stocks.proofs.StockLemmas.{before_or_behind}
use Rattle.cn_joins.specs.Joins.{Join}
use Rattle.cn_joins.proofs.Finite.{known_first, known_more, known_none, known_rest}

-- what holds of some joins holds with more of them
pub record Grows (Q : List Join → Type 0) : Type 0 where
  pub left : (xs ys : List Join) → Q xs → Q (xs ++ ys)
  pub right : (xs ys : List Join) → Q ys → Q (xs ++ ys)

module _ (Good : Join → Type 0) where
  pub for_each : (Q : ℕ → List Join → Type 0) → ((i : ℕ) → Grows (Q i)) → (k : ℕ) → ((i : ℕ) → i < k → (xs : List Join) × All Good xs × Q i xs)
      → (xs : List Join) × All Good xs × ((i : ℕ) → i < k → Q i xs)
  for_each Q grows zero each = ([], All-nil Good, λ i l. absurd (omega (arith, l)))
  for_each Q grows (suc k) each =
      let r = for_each Q grows k (λ i l. each i (omega (arith, l))) in
      let last = each k (omega arith) in (
        r.0 ++ last.0,
        All-append Good r.0 last.0 r.1 last.1,
        λ i l. elim (before_or_behind i k) [
          | inl u ↦ (grows i).left r.0 last.0 (r.2 i u)
          | inr u ↦ (let e : k ≡ i = omega (arith, l, u) in subst (λ (x : ℕ). Q x (r.0 ++ last.0)) e ((grows k).right r.0 last.0 last.2))
        ],
      )

  pub for_each_list : (k n : ℕ) (Q : List ℕ → List Join → Type 0) → ((list : List ℕ) → Grows (Q list))
      → ((list : List ℕ) → length list ≡ n → IsKnown k list → (xs : List Join) × All Good xs × Q list xs)
      → (xs : List Join) × All Good xs × ((list : List ℕ) → length list ≡ n → IsKnown k list → Q list xs)
  for_each_list k zero Q grows each = let r = each [] refl (known_none k) in (r.0, r.1, λ list l known. empty list r.0 l r.2)
    where
      empty : (list : List ℕ) (xs : List Join) → length list ≡ 0 → Q [] xs → Q list xs
      empty [] xs l q = q
      empty (x ∷ list) xs l q = absurd (omega (arith, l))
  for_each_list k (suc n) Q grows each =
      let r = for_each (λ x xs. (list : List ℕ) → length list ≡ n → IsKnown k list → Q (x ∷ list) xs)
      (λ x. record { left = λ xs ys q list l known. (grows (x ∷ list)).left xs ys (q list l known); right = λ xs ys q list l known. (grows (x ∷ list)).right xs ys (q list l known) }) k
      (λ x below. for_each_list k n (λ list. Q (x ∷ list)) (λ list. grows (x ∷ list)) (λ list l known. each (x ∷ list) (omega (arith, l)) (known_more k x list below known))) in
      (r.0, r.1, λ list l known. more list r.0 l known r.2)
    where
      more : (list : List ℕ) (xs : List Join) → length list ≡ suc n → IsKnown k list
          → ((x : ℕ) → x < k → (list : List ℕ) → length list ≡ n → IsKnown k list → Q (x ∷ list) xs) → Q list xs
      more [] xs l known q = absurd (omega (arith, l))
      more (x ∷ list) xs l known q = q x (known_first k x list known) list (omega (arith, l)) (known_rest k x list known)
