-- Numbers and limits.
use Rattle.std.proofs.Common.{◌≡◌, ◌≤◌, ◌∙◌, ℕ, false, Option, Some, sym, subst}
use Rattle.std.specs.Prelude.{nat_lt}
use Rattle.std.proofs.lemmas.Bool.{le-ltb}

-- a number that is not below the limit, by either name
same_number : (m n : ℕ) → Some m ≡ Some n → m ≡ n
same_number m n e = cc

pub not_below : (number : Option ℕ) (m n limit : ℕ) → number ≡ Some m → number ≡ Some n → limit ≤ m → nat_lt n limit ≡ false
not_below number m n limit e f all = le-ltb n limit (subst (λ k. limit ≤ k) (same_number m n (sym e ∙ f)) all)
