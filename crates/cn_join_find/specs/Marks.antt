-- Which stocks are not known to be connected.
use Rattle.std.specs.Prelude.{◌≡◌, ℕ, List, ◌∷◌, length, slice_get, Some, Bool, false}
use Rattle.cn_table.specs.TypeTable.{TypeTable}
use Rattle.cn_choice.specs.Canonical.{Choice, raw_choice_of}
use Rattle.cn_choice.specs.Discerning.{IsWitness}
use Rattle.cn_choice.specs.RawChoices.{IsRawChoice}
use Rattle.cn_joins.specs.Joins.{Connect, Join}
use Rattle.cn_stocks.specs.declared.stocks.Stock.{Stock}
use Rattle.cn_stocks.specs.Stocks.{IsStock}
use Rattle.cn_stocks.specs.Words.{HaveSame}
use Rattle.cn_telling.specs.Rows.{RowsDiffer}
use Rattle.cn_join_find.specs.declared.marks.Below.{Below}

-- each stock has a mark, and from the start state the joins connect the operations of those that have
-- the mark false and whose rows differ
pub record AreMarked (t : TypeTable) (start : ℕ) (joins : List Join) (stocks : List Stock)
    (marks : List Bool) : Type 0 where
  pub count : length marks ≡ length stocks
  pub connect : (i : ℕ) (s : Stock) → slice_get stocks i ≡ Some s
      → slice_get marks i ≡ Some false → RowsDiffer t s.operations.items
      → Connect joins start s.operations.items

-- the rows of the stock differ, and it has one operation more than these, which have marks
pub record IsAbove (t : TypeTable) (start : ℕ) (joins : List Join) (b : Below)
    (s : Stock) : Type 0 where
  pub is_stock : IsStock (length t.operations) b.stocks.now s
  pub marks : AreMarked t start joins b.stocks.now b.marks.now
  pub rows_differ : RowsDiffer t s.operations.items

-- the joins connect what is left of the stock without one of the operation
abbrev pub IsConnectedWithout : List Join → ℕ → List ℕ → ℕ → Type 0
IsConnectedWithout joins start stock x =
    (rest : List ℕ) × HaveSame stock (x ∷ rest) × Connect joins start rest

-- the choice is a witness for n processes
abbrev pub IsWitnessFor : TypeTable → ℕ → Choice → Type 0
IsWitnessFor t n c = IsRawChoice t n (raw_choice_of c) × IsWitness t (raw_choice_of c)

-- the joins connect the operations of each of the stocks whose rows differ
abbrev pub ConnectEach : TypeTable → ℕ → List Join → List Stock → Type 0
ConnectEach t start joins stocks = (i : ℕ) (s : Stock) → slice_get stocks i ≡ Some s
    → RowsDiffer t s.operations.items → Connect joins start s.operations.items
