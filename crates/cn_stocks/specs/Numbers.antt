-- The number of a type, with no limit.
use Rattle.std.specs.Prelude.{ℕ, ◌<◌, ◌≤◌, Option, Some, None}
use Rattle.cn_table.specs.TypeTable.{TypeTable}
use Rattle.cn_choice.specs.Discerning.{IsDiscerning}

-- the greatest n from 2 on for which the type is n-discerning, or none where there is no such n at
-- all
abbrev pub IsNumber : TypeTable → Option ℕ → Type 0
IsNumber t None = (m : ℕ) → 2 ≤ m → ¬ IsDiscerning t m
IsNumber t (Some n) = (2 ≤ n) × IsDiscerning t n × ((m : ℕ) → n < m → ¬ IsDiscerning t m)
