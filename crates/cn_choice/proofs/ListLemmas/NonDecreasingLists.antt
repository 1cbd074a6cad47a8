-- Non-decreasing lists, by cases on the list.
use Rattle.std.proofs.Common.{ℕ, suc, ◌≤◌, inl, inr, List, [], ◌∷◌, get_or, subst, arith}
use Rattle.std.proofs.Math.Nat.{eq-or-lt_of_le}
use Rattle.std.specs.List.Sorted.{IsNonDecreasing}
use Rattle.cn_choice.proofs.ListLemmas.Members.{Pairs, Pairs-at, each_from, place_of}

-- each number is at most each later one
abbrev pub NeverFalls : List ℕ → Type 0
NeverFalls xs = Pairs (λ x y. x ≤ y) xs

pub never_falls : (xs : List ℕ) → IsNonDecreasing xs → NeverFalls xs
never_falls [] h = tt
never_falls (x ∷ xs) h = (
  each_from (λ y. x ≤ y) xs (λ y i. let p = place_of y xs 0 i in subst (λ (z : ℕ). x ≤ z) p.2 (h 0 (suc p.0) 0 (omega arith) (omega (arith, p.1)))),
  never_falls xs (λ i j d l u. h (suc i) (suc j) d (omega arith) (omega arith)),
)

pub is_non_decreasing : (xs : List ℕ) → NeverFalls xs → IsNonDecreasing xs
is_non_decreasing xs n i j d l u =
    elim (eq-or-lt_of_le l) [ inl e ↦ subst (λ (k : ℕ). get_or xs i d ≤ get_or xs k d) e (omega arith) | inr g ↦ Pairs-at (λ x y. x ≤ y) xs i j d n g u ]
