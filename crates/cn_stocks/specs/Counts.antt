-- How many stocks there are.
use Rattle.std.specs.Prelude.{ℕ, zero, suc, ◌+◌}

-- how many stocks of n operations there are out of so many: those that have the last operation,
-- which have one of it less besides, and those of the others
abbrev pub count_of_stocks : ℕ → ℕ → ℕ
count_of_stocks operations zero = 1
count_of_stocks zero (suc n) = 0
count_of_stocks (suc operations) (suc n) =
    count_of_stocks (suc operations) n + count_of_stocks operations (suc n)
