-- Sets of small numbers, as the bits of a number.
use Rattle.std.specs.Prelude.{◌≡◌, ℕ}
use Rattle.std.specs.Int.{bit_at}

-- the number is in the set
abbrev pub IsIn : ℕ → ℕ → Type 0
IsIn set k = bit_at set k ≡ 1
