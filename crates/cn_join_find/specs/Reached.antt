-- The operations that joins connect with one of a stock.
use Rattle.std.specs.Prelude.{◌≡◌, ℕ, ◌≤◌, List, ◌++◌, length, All, IsBitSet, Bool}
use Rattle.cn_table.specs.TypeTable.{TypeTable}
use Rattle.cn_joins.specs.Joins.{Connect, IsJoin, Join, KeepsApart}
use Rattle.cn_stocks.specs.Words.{IsKnown, times}
use Rattle.cn_telling.specs.Rows.{RowsDiffer}

-- wherever the joins keep the chosen operations and the others apart, each of the set is chosen
-- exactly if the first one is
abbrev pub AreReached : List Join → ℕ → List ℕ → ℕ → ℕ → Type 0
AreReached joins start stock first set =
    (chosen : ℕ → Bool) → KeepsApart chosen joins start stock
    → (g : ℕ) → IsBitSet set g → chosen g ≡ chosen first

-- the set has each operation of the smaller one
abbrev pub HasAllOf : ℕ → ℕ → Type 0
HasAllOf set smaller = (g : ℕ) → IsBitSet smaller g → IsBitSet set g

-- each operation of the stock is in the set
abbrev pub Covers : ℕ → List ℕ → Type 0
Covers set stock = (g : ℕ) → 1 ≤ times g stock → IsBitSet set g

-- a join of the type from this state
abbrev pub IsJoinFrom : TypeTable → ℕ → Join → Type 0
IsJoinFrom t start join = IsJoin t join × (join.start ≡ start)

-- joins of the type from this state behind the old ones
pub record AreMore (t : TypeTable) (start : ℕ) (old new : List Join) : Type 0 where
  pub more : List Join
  pub goes_on : new ≡ old ++ more
  pub are : All (IsJoinFrom t start) more

-- the joins connect the operations of each stock of n whose rows differ, from this state
abbrev pub ConnectFrom : TypeTable → ℕ → ℕ → List Join → Type 0
ConnectFrom t n start joins =
    (stock : List ℕ) → IsKnown (length t.operations) stock → length stock ≡ n
    → RowsDiffer t stock → Connect joins start stock
