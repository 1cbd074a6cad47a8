-- Above which number of operations no stock splits, and the greatest of which some stock records.
use Rattle.std.specs.Prelude.{ℕ, ◌<◌, ◌≤◌, Option, Some, None}
use Rattle.cn_table.specs.TypeTable.{TypeTable}
use Rattle.cn_stocks.specs.Records.{SomeRecords}
use Rattle.cn_stocks.specs.Splits.{SomeSplits}

-- no stock of so many operations or more splits, up to the most
abbrev pub NoneFrom : TypeTable → ℕ → ℕ → Type 0
NoneFrom t from most = (n : ℕ) → from ≤ n → n ≤ most → ¬ SomeSplits t n

-- the greatest number from 2 to the most of which some stock records, or none where there is none
abbrev pub IsGreatestRecord : TypeTable → ℕ → Option ℕ → Type 0
IsGreatestRecord t most None = (m : ℕ) → 2 ≤ m → m ≤ most → ¬ SomeRecords t m
IsGreatestRecord t most (Some n) =
    (2 ≤ n) × (n ≤ most) × SomeRecords t n × ((m : ℕ) → n < m → m ≤ most → ¬ SomeRecords t m)
