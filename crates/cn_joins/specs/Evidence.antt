-- Evidence by joins that a type is not n-discerning.
use Rattle.std.specs.Prelude.{◌≡◌, ◌≢◌, ℕ, ◌<◌, ◌≤◌, List, length, All, slice_index_or}
use Rattle.cn_table.specs.TypeTable.{Row, TypeTable, no_row, transition}
use Rattle.cn_stocks.specs.Words.{IsKnown, times}
use Rattle.cn_telling.specs.Rows.{RowsDiffer}
use Rattle.cn_joins.specs.Joins.{Connect, IsJoin, Join}

-- the operation, done twice in a row from the state, gives another response the second time
abbrev pub NoticesItself : TypeTable → ℕ → ℕ → Type 0
NoticesItself t start o =
    (transition t o start).0 ≢ (transition t o (transition t o start).1).0

-- some operation of the type notices itself from some state
abbrev pub SomeNotices : TypeTable → Type 0
SomeNotices t = (start : ℕ) × (start < length t.states)
    × ((o : ℕ) × (o < length t.operations) × NoticesItself t start o)

abbrev pub row_of : TypeTable → ℕ → Row
row_of t o = slice_index_or t.operations o no_row

-- the rows of the two operations have the same responses and the same next states
abbrev pub HaveSameRows : TypeTable → ℕ → ℕ → Type 0
HaveSameRows t o p =
    ((row_of t o).response ≡ (row_of t p).response) × ((row_of t o).next ≡ (row_of t p).next)

-- an earlier operation has the same row: the operation is a copy of it
abbrev pub HasRowOfEarlier : TypeTable → ℕ → Type 0
HasRowOfEarlier t o = (p : ℕ) × (p < o) × HaveSameRows t p o

-- no operation of the stock is a copy of an earlier one of the type
abbrev pub HasNoCopies : TypeTable → List ℕ → Type 0
HasNoCopies t stock = (o : ℕ) → 1 ≤ times o stock → ¬ HasRowOfEarlier t o

-- the stock must be connected: it has no copies, and no two different operations that lead from each
-- state to the same one
pub record MustBeConnected (t : TypeTable) (stock : List ℕ) : Type 0 where
  pub no_copies : HasNoCopies t stock
  pub rows_differ : RowsDiffer t stock

-- from each state the joins connect the operations of each stock of n that must be connected
abbrev pub ConnectAll : TypeTable → ℕ → List Join → Type 0
ConnectAll t n joins =
    (start : ℕ) → start < length t.states → (stock : List ℕ) → IsKnown (length t.operations) stock
    → length stock ≡ n → MustBeConnected t stock → Connect joins start stock

-- joins of the type connect the operations of each stock of n that must be connected; two processes
-- can also do one operation in two teams, so for two no operation notices itself
pub record IsEvidenceAgainst (t : TypeTable) (n : ℕ) (joins : List Join) : Type 0 where
  pub are_joins : All (IsJoin t) joins
  pub connect : ConnectAll t n joins
  pub none_notices : n ≡ 2 → ¬ SomeNotices t
