-- What a search knows of all stocks of one number of operations.
use Rattle.std.specs.Prelude.{◌≡◌, ◌↔◌, ℕ, ◌<◌, List, length, slice_index, slice_index_or}
use Rattle.std.specs.Prelude.{Some, None, IsBitSet}
use Rattle.std.specs.List.{AllZip}
use Rattle.cn_table.specs.TypeTable.{TypeTable}
use Rattle.cn_stocks.specs.declared.stocks.Stock.{Stock}
use Rattle.cn_stocks.specs.Reach.{AreEnds}
use Rattle.cn_stocks.specs.Stocks.{AreAll, IsStock, SomeAll}
use Rattle.cn_telling.specs.declared.ends.Ends.{Ends}
use Rattle.cn_telling.specs.declared.levels.Level.{Level}
use Rattle.cn_telling.specs.declared.search.Search.{Search}
use Rattle.cn_telling.specs.Telling.{Tells}

-- the states of the table from which the stock tells
abbrev pub AreStarts : TypeTable → List ℕ → ℕ → Type 0
AreStarts t stock starts = (q : ℕ) → IsBitSet starts q ↔ ((q < length t.states) × Tells t q stock)

-- these states for each stock
abbrev pub AreAllStarts : TypeTable → List Stock → List ℕ → Type 0
AreAllStarts t stocks starts =
    AllZip (λ stock starts. AreStarts t stock.operations.items starts) stocks starts

-- the states in which words end, for each stock
abbrev pub AreAllEnds : TypeTable → List Stock → List Ends → Type 0
AreAllEnds t stocks ends = AllZip
    (λ stock ends. AreEnds t stock.operations.items (length t.states) ends.states) stocks ends

-- the start states and the ends of all stocks of the level
pub record IsLevel (t : TypeTable) (level : Level) : Type 0 where
  pub starts : AreAllStarts t level.stocks.list.items level.starts.items
  pub ends : AreAllEnds t level.stocks.list.items level.ends.items

-- a stock of one operation more than those of the level
pub record IsNext (t : TypeTable) (level : Level) (stock : Stock) : Type 0 where
  pub level_is : IsLevel t level
  pub stock_is : IsStock (length t.operations) level.stocks.list.items stock

-- the set has the start states of each stock that has one operation less
abbrev pub HasLessStarts : Level → Stock → ℕ → Type 0
HasLessStarts level stock set =
    (x j q : ℕ) → slice_index_or stock.less x None ≡ Some j
    → IsBitSet (slice_index level.starts.items j) q → IsBitSet set q

-- all stocks of n operations, over some stocks of one operation less, and what is known of them
pub record IsLevelOf (t : TypeTable) (n : ℕ) (level : Level) : Type 0 where
  pub level_is : IsLevel t level
  pub all : SomeAll (length t.operations) n level.stocks

-- all stocks of n operations, each with the states from which it tells, over the stocks of one
-- operation less
pub record IsSearch (t : TypeTable) (n : ℕ) (search : Search) : Type 0 where
  pub below : IsLevel t search.below
  pub stocks : AreAll (length t.operations) n search.below.stocks.list.items search.stocks
  pub starts : AreAllStarts t search.stocks.list.items search.starts.items
