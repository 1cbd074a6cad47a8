-- The greatest number of operations of which some stock tells, and of which some stock splits.
use Rattle.std.specs.Prelude.{ℕ, ◌+◌, ◌<◌, ◌≤◌, Option, Some, None}
use Rattle.cn_table.specs.TypeTable.{TypeTable}
use Rattle.cn_stocks.specs.Greatest.{NoneFrom}
use Rattle.cn_stocks.specs.Splits.{SomeSplits}
use Rattle.cn_telling.specs.Telling.{SomeTells}

-- the greatest number from 2 to the most of which some stock tells, or none where there is none
abbrev pub IsGreatestTold : TypeTable → ℕ → Option ℕ → Type 0
IsGreatestTold t most None = (m : ℕ) → 2 ≤ m → m ≤ most → ¬ SomeTells t m
IsGreatestTold t most (Some n) =
    (2 ≤ n) × (n ≤ most) × SomeTells t n × ((m : ℕ) → n < m → m ≤ most → ¬ SomeTells t m)

-- the greatest number from 3 to the most of which some stock splits, or none where there is none
abbrev pub IsExactSplit : TypeTable → ℕ → Option ℕ → Type 0
IsExactSplit t most None = NoneFrom t 3 most
IsExactSplit t most (Some n) = (3 ≤ n) × (n ≤ most) × SomeSplits t n × NoneFrom t (n + 1) most
