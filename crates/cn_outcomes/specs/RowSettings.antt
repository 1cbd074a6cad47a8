-- The setting of rows, and the rows.
use Rattle.std.specs.Prelude.{ℕ, ◌^◌, ◌<◌, ◌≤◌, List, length}
use Rattle.cn_choice.specs.RawChoices.{IsRawChoice}
use Rattle.cn_choice.specs.declared.limits.TheConstants.{MOST_PROCESSES}
use Rattle.cn_outcomes.specs.Subsets.{ArePairs, AreSubsetRows}
use Rattle.cn_outcomes.specs.Twins.{AreTwinLinks, IsPacked}
use Rattle.cn_outcomes.specs.declared.limits.TheConstants.{SUBSETS}
use Rattle.cn_outcomes.specs.declared.row_setting.RowSetting.{RowSetting}

-- the choice is one of the table, for at most MOST_PROCESSES processes, and the links are between
-- its processes
pub record IsRowSetting (s : RowSetting) : Type 0 where
  pub few : length s.choice.now.operations ≤ MOST_PROCESSES
  pub fits : IsRawChoice s.table.now (length s.choice.now.operations) s.choice.now
  pub linked : AreTwinLinks s.choice.now s.links

-- the number of subsets of the processes
abbrev pub subset_count : RowSetting → ℕ
subset_count s = 2 ^ length s.choice.now.operations

-- the rows of the packed subsets below the end
abbrev pub HasRows : RowSetting → ℕ → List ℕ → Type 0
HasRows s end rows = AreSubsetRows s.table.now s.choice.now s.team s.links end rows

-- the subset is a packed one of the processes, and the packed ones below it have their rows
pub record HasRowsBefore (s : RowSetting) (subset : ℕ) (rows : List ℕ) : Type 0 where
  pub small : subset < SUBSETS
  pub inside : subset < subset_count s
  pub packed : IsPacked s.links subset
  pub before : HasRows s subset rows

-- the pairs that process j gets from the packed subsets below the end
abbrev pub HasPairs : RowSetting → ℕ → ℕ → List (List ℕ) → Type 0
HasPairs s j end pairs = ArePairs s.table.now s.choice.now s.team j s.links end pairs
