-- How often a stock has to have each operation, for the words of a join to be within it.
use Rattle.std.specs.Prelude.{◌≡◌, ℕ, ◌<◌, ◌≤◌, ◌↔◌, ◌⊎◌, List, length, slice_index, Bool}
use Rattle.std.specs.Prelude.{Contains, All, ◌++◌}
use Rattle.cn_table.specs.TypeTable.{TypeTable}
use Rattle.cn_table.specs.declared.limits.TheConstants.{MOST_OPERATIONS}
use Rattle.cn_stocks.specs.Stocks.{UpTo}
use Rattle.cn_stocks.specs.Words.{IsKnown, times}
use Rattle.cn_telling.specs.Rows.{HasEarlier}
use Rattle.cn_joins.specs.Evidence.{HasRowOfEarlier, MustBeConnected}
use Rattle.cn_joins.specs.Joins.{Connect, Join, beginning}
use Rattle.cn_stock_check.specs.declared.needs.Need.{Need}

-- so often the stock has each operation
abbrev pub HasCounts : List ℕ → List ℕ → Type 0
HasCounts counts stock = (o : ℕ) → slice_index counts o ≡ times o stock

-- the need of a join: the operations with which its words begin, and how often each operation has to
-- be there; 255 stands for 255 times or more
pub record IsNeedOf (join : Join) (need : Need) : Type 0 where
  pub first : need.first ≡ beginning join.first
  pub second : need.second ≡ beginning join.second
  pub counts : (o c : ℕ) → c < 255 → slice_index need.counts o ≤ c
      ↔ ((times o join.first.word ≤ c) × (times o join.second.word ≤ c))

-- neither word has an operation below the end more often than the stock has it
abbrev pub FitsBelow : ℕ → List ℕ → Join → Type 0
FitsBelow end stock join = (o : ℕ) → o < end
    → (times o join.first.word ≤ times o stock) × (times o join.second.word ≤ times o stock)

-- the needs of the joins from a state whose words have no operation below the end too often for the
-- stock
pub record AreNeedsOf (joins : List Join) (start end : ℕ) (stock : List ℕ)
    (needs : List Need) : Type 0 where
  pub of_each : (join : Join) → Contains joins join → join.start ≡ start
      → FitsBelow end stock join → (need : Need) × Contains needs need × IsNeedOf join need
  pub of_some : (need : Need) → Contains needs need
      → (join : Join) × Contains joins join × (join.start ≡ start) × IsNeedOf join need

-- the words begin with operations of which there are so many at most
abbrev pub AreKnown : List Need → Type 0
AreKnown needs = All (λ need. (need.first < MOST_OPERATIONS) × (need.second < MOST_OPERATIONS)) needs

-- the counts have what is needed
abbrev pub HasNeed : List ℕ → Need → Type 0
HasNeed counts need = (o : ℕ) → slice_index need.counts o ≤ slice_index counts o

-- no need that the counts have is between a chosen operation and another one
abbrev pub NeedsKeepApart : (ℕ → Bool) → List Need → List ℕ → Type 0
NeedsKeepApart chosen needs counts =
    (need : Need) → Contains needs need → HasNeed counts need
    → chosen need.first ≡ chosen need.second

-- the needs that the counts have connect the operations that are there
abbrev pub NeedsConnect : List Need → List ℕ → Type 0
NeedsConnect needs counts =
    (chosen : ℕ → Bool) → NeedsKeepApart chosen needs counts
    → (f g : ℕ) → 1 ≤ slice_index counts f → 1 ≤ slice_index counts g → chosen f ≡ chosen g

-- one label for each operation: operations with one label are connected, and those of each need
-- have one
pub record ArePartsBy (needs : List Need) (counts labels : List ℕ) : Type 0 where
  pub connected : (chosen : ℕ → Bool) → NeedsKeepApart chosen needs counts
      → (f g : ℕ) → f < MOST_OPERATIONS → g < MOST_OPERATIONS
      → slice_index labels f ≡ slice_index labels g → chosen f ≡ chosen g
  pub joined : (need : Need) → Contains needs need → HasNeed counts need
      → slice_index labels need.first ≡ slice_index labels need.second

-- the operations that are there have one label
abbrev pub HaveOneLabel : List ℕ → List ℕ → Type 0
HaveOneLabel counts labels =
    (f g : ℕ) → 1 ≤ slice_index counts f → 1 ≤ slice_index counts g
    → slice_index labels f ≡ slice_index labels g

-- each operation of the list is from the first number on and below the end
abbrev pub AreFrom : ℕ → ℕ → List ℕ → Type 0
AreFrom first end list = (o : ℕ) → 1 ≤ times o list → (first ≤ o) × (o < end)

-- a stock so far: it has the counted operations, none above the next one, and must be connected
pub record IsBegun (t : TypeTable) (next : ℕ) (counts stock : List ℕ) : Type 0 where
  pub counted : HasCounts counts stock
  pub up_to : UpTo next stock
  pub must : MustBeConnected t stock

-- stocks that have the operation beside these need not be connected: it is a copy, or leads from each
-- state to the same one as an earlier one of these
abbrev pub IsLeftOut : TypeTable → List ℕ → ℕ → Type 0
IsLeftOut t stock o = HasRowOfEarlier t o ⊎ HasEarlier t stock o

-- the joins connect the stock with each list of so many operations from the first number on and below
-- the end, if the two together must be connected
abbrev pub ConnectWith : TypeTable → List Join → ℕ → List ℕ → ℕ → ℕ → ℕ → Type 0
ConnectWith t joins start stock first end more =
    (rest : List ℕ) → length rest ≡ more → AreFrom first end rest
    → MustBeConnected t (stock ++ rest) → Connect joins start (stock ++ rest)

-- from the state the joins connect each stock of n operations that must be connected
abbrev pub ConnectFrom : TypeTable → ℕ → List Join → ℕ → Type 0
ConnectFrom t n joins start =
    (stock : List ℕ) → IsKnown (length t.operations) stock → length stock ≡ n
    → MustBeConnected t stock → Connect joins start stock
