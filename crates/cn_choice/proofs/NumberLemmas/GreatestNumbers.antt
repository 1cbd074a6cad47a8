-- The greatest number with a property.
use Rattle.std.proofs.Common.{◌≡◌, ◌≢◌, ℕ, zero, suc, ◌+◌, ◌-◌, ◌<◌, ◌≤◌, inl, inr, subst, refl, ap}
use Rattle.std.proofs.Common.{arith, Option, Some, None}
use Rattle.std.proofs.Math.Nat.{eq-or-lt_of_le}
use Rattle.std.proofs.lemmas.Bool.{cases_order}
use Rattle.cn_choice.specs.GreatestNumbers.{IsGreatestUpTo, PassesDown}

-- there is only one greatest number
pub greatest_is_unique : (P : ℕ → Type 0) (limit : ℕ) (m n : Option ℕ) → IsGreatestUpTo P limit m
    → IsGreatestUpTo P limit n → m ≡ n
greatest_is_unique P limit None None h g = refl
greatest_is_unique P limit None (Some n) h g = absurd (h n g.0 g.1 g.2)
greatest_is_unique P limit (Some m) None h g = absurd (g m h.0 h.1 h.2)
greatest_is_unique P limit (Some m) (Some n) h g = elim (cases_order m n) [
  | inl e ↦ ap Some e
  | inr o ↦ elim o [ inl l ↦ absurd (h.3 n l g.1 g.2) | inr l ↦ absurd (g.3 m l h.1 h.2) ]
]

-- a property of numbers of processes that passes from n to n - 1, for n from 3 on
module _ (P : ℕ → Type 0) (below : PassesDown P) where
  by_steps : (n k : ℕ) → 2 ≤ n → P (n + k) → P n
  by_steps n zero l is = subst P (omega arith) is
  by_steps n (suc k) l is =
      by_steps n k l (subst P (omega arith) (below (n + suc k) (omega arith) is))

  -- if it fails for the number after n, it fails for each number above n
  not_above : (n m : ℕ) → 1 ≤ n → n < m → ¬ P (n + 1) → ¬ P m
  not_above n m l u fails is =
      fails (by_steps (n + 1) (m - (n + 1)) (omega arith) (subst P (omega arith) is))

  -- a number with the property is the greatest if the next one fails
  pub greatest_at : (limit n : ℕ) → 2 ≤ n → n ≤ limit → P n → (n < limit → ¬ P (n + 1))
      → IsGreatestUpTo P limit (Some n)
  greatest_at limit n l u here fails =
      (l, u, here, λ m above v. not_above n m (omega arith) above (fails (omega arith)))

  pub no_greatest : (limit : ℕ) → ¬ P 2 → IsGreatestUpTo P limit None
  no_greatest limit fails = λ m l u. not_above 1 m (omega arith) l fails

  -- above a greatest number below the limit, no number has the property
  pub none_above : (limit n m : ℕ) → IsGreatestUpTo P limit (Some n) → n < limit → n < m → ¬ P m
  none_above limit n m is less above =
      not_above n m (omega (arith, is.0)) above (is.3 (n + 1) (omega arith) (omega arith))

  -- if there is none up to a limit, no number from 2 on has it
  pub none_at_all : (limit m : ℕ) → IsGreatestUpTo P limit None → 2 ≤ limit → 2 ≤ m → ¬ P m
  none_at_all limit m none least l = not_above 1 m (omega arith) l (none 2 (omega arith) least)

  -- a greatest number below the limit is the greatest up to each greater limit
  pub greatest_below : (limit more : ℕ) (number : Option ℕ) → 2 ≤ limit → limit ≤ more
      → IsGreatestUpTo P limit number → number ≢ Some limit → IsGreatestUpTo P more number
  greatest_below limit more None least within is below = λ m l u. none_at_all limit m is least l
  greatest_below limit more (Some n) least within is below = elim (eq-or-lt_of_le is.1) [
    | inl same ↦ absurd (below (ap Some same))
    | inr less ↦
        (is.0, omega (arith, is.1, within), is.2, λ m above u. none_above limit n m is less above)
  ]
