-- The greatest number with a property.
use Rattle.std.specs.Prelude.{ℕ, ◌-◌, ◌<◌, ◌≤◌, Option, Some, None}

-- from 3 on the property passes from a number to the one before
abbrev pub PassesDown : (ℕ → Type 0) → Type 0
PassesDown P = (n : ℕ) → 3 ≤ n → P n → P (n - 1)

-- the greatest n from 2 to the limit with the property, or none if there is no such n
abbrev pub IsGreatestUpTo : (ℕ → Type 0) → ℕ → Option ℕ → Type 0
IsGreatestUpTo P limit None = (m : ℕ) → 2 ≤ m → m ≤ limit → ¬ P m
IsGreatestUpTo P limit (Some n) =
    (2 ≤ n) × (n ≤ limit) × P n × ((m : ℕ) → n < m → m ≤ limit → ¬ P m)
