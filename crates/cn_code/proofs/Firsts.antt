-- The first of a list that passes a test.
use Rattle.std.proofs.Common.{◌≡◌, ℕ, ◌<◌, ◌≤◌, Bool, true, false, List, length, get_or, sym, ap, ◌∙◌, arith}
use Rattle.std.specs.List.{position_or_len}
use Rattle.std.proofs.lemmas.List.{get_or_default}
use Rattle.std.proofs.lemmas.List.Sums.{position_or_len_is}

pub first_is : {X : Type 0} (p : X → Bool) (xs : List X) (d e : X) (n : ℕ) → ((k : ℕ) → k < n → p (get_or xs k d) ≡ false) → n < length xs → p (get_or xs n e) ≡ true
    → n ≡ position_or_len p xs
first_is p xs d e n before within here = sym (position_or_len_is p xs n d (omega (arith, within)) before (λ _. ap p (get_or_default xs n d e within) ∙ here))

pub none_is : {X : Type 0} (p : X → Bool) (xs : List X) (d : X) (n : ℕ) → ((k : ℕ) → k < n → p (get_or xs k d) ≡ false) → length xs ≤ n → length xs ≡ position_or_len p xs
none_is p xs d n before l =
    sym (position_or_len_is p xs (length xs) d (omega arith) (λ k less. before k (omega (arith, l, less))) (λ less. absurd (omega (arith, less))))
