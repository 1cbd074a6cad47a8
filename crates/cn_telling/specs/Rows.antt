-- Operations that lead from each state to the same one, and stocks without two of these.
use Rattle.std.specs.Prelude.{◌≡◌, ℕ, ◌≤◌, ◌<◌, List, length, map, cond, nat_eq, slice_index_or}
use Rattle.cn_table.specs.TypeTable.{TypeTable, no_row}
use Rattle.cn_stocks.specs.declared.stocks.Stock.{Stock}
use Rattle.cn_stocks.specs.Splits.{StockSplits}
use Rattle.cn_stocks.specs.Stocks.{IsStock}
use Rattle.cn_stocks.specs.Words.{IsKnown, times}

-- the states to which the operation leads, for each state
abbrev pub next_row : TypeTable → ℕ → List ℕ
next_row t o = (slice_index_or t.operations o no_row).next

-- the two operations lead from each state to the same one; their responses can differ
abbrev pub HaveOneRow : TypeTable → ℕ → ℕ → Type 0
HaveOneRow t a b = next_row t a ≡ next_row t b

-- a where the operation is b, else the operation
abbrev pub in_place : ℕ → ℕ → ℕ → ℕ
in_place a b operation = cond (nat_eq operation b) a operation

-- the stock with a in place of each b
abbrev pub replaced : ℕ → ℕ → List ℕ → List ℕ
replaced a b stock = map (in_place a b) stock

-- an operation of the stock that is below this one has the same row
abbrev pub HasEarlier : TypeTable → List ℕ → ℕ → Type 0
HasEarlier t stock b = (a : ℕ) × (a < b) × (1 ≤ times a stock) × HaveOneRow t a b

-- no two different operations of the stock have one row
abbrev pub RowsDiffer : TypeTable → List ℕ → Type 0
RowsDiffer t stock = (b : ℕ) → 1 ≤ times b stock → ¬ HasEarlier t stock b

-- some stock of n operations of the type, whose rows differ, splits from the state
abbrev pub SplitsByRows : TypeTable → ℕ → ℕ → Type 0
SplitsByRows t n start = (stock : List ℕ) × IsKnown (length t.operations) stock
    × (length stock ≡ n) × RowsDiffer t stock × StockSplits t start stock

-- the stock is one of the operations of the type, with links to some stocks
abbrev pub IsOfType : TypeTable → Stock → Type 0
IsOfType t stock = (before : List Stock) × IsStock (length t.operations) before stock
