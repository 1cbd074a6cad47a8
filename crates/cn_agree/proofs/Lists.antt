-- Reads of a list after a write.
use Rattle.std.proofs.Common.{ℕ, zero, suc, ◌≡◌, ◌≢◌, ◌⊎◌, List, [], ◌∷◌, ◌++◌, slice_get, Some, refl, inl, inr, arith}
use Rattle.std.proofs.Common.{count_by, ◌==◌, ◌+◌, cond, true, false, ◌∙◌}
use Rattle.std.proofs.lemmas.List.Sums.{sum_by-append}
use Rattle.std.proofs.lemmas.Bool.Decides.{nat_tests}
use Rattle.std.specs.List.{AllByRecursion}

pub AllByRecursion_get : {A : Type 0} (P : A → Type 0) (xs : List A) → ((k : ℕ) (x : A) → slice_get xs k ≡ Some x → P x) → AllByRecursion P xs
AllByRecursion_get P [] h = tt
AllByRecursion_get P (x ∷ xs) h = (h zero x refl, AllByRecursion_get P xs (λ k. h (suc k)))

pub slice_get_push_cases : {A : Type 0} (xs : List A) (x : A) (k : ℕ) (y : A) → slice_get (xs ++ x ∷ []) k ≡ Some y → (slice_get xs k ≡ Some y) ⊎ (x ≡ y)
slice_get_push_cases [] x zero y h = inr cc
slice_get_push_cases [] x (suc k) y h = absurd cc
slice_get_push_cases (z ∷ xs) x zero y h = inl h
slice_get_push_cases (z ∷ xs) x (suc k) y h = slice_get_push_cases xs x k y h

-- the number of times that p occurs, with q at the end
pub count_here : (p q : ℕ) (xs : List ℕ) → q ≡ p → count_by (λ r. r == p) (xs ++ q ∷ []) ≡ count_by (λ r. r == p) xs + 1
count_here p q xs e =
    let last : (q == p) ≡ true = grind (arith, nat_tests) in
    sum_by-append (λ r. cond (r == p) 1 0) xs (q ∷ []) ∙ rw last

pub count_elsewhere : (p q : ℕ) (xs : List ℕ) → q ≢ p → count_by (λ r. r == p) (xs ++ q ∷ []) ≡ count_by (λ r. r == p) xs
count_elsewhere p q xs ne =
    let last : (q == p) ≡ false = grind (arith, nat_tests) in
    sum_by-append (λ r. cond (r == p) 1 0) xs (q ∷ []) ∙ rw last (omega arith)
