-- Which stocks could split, by the stocks of one operation less that tell.
use Rattle.std.specs.Prelude.{◌≡◌, ℕ, ◌<◌, List, length, slice_index, slice_index_or, Some, None, IsBitSet}
use Rattle.cn_table.specs.TypeTable.{TypeTable}
use Rattle.cn_stocks.specs.declared.stocks.Stock.{Stock}
use Rattle.cn_stocks.specs.Splits.{StockSplits}
use Rattle.cn_telling.specs.declared.levels.Level.{Level}

-- the stock has the operation, and what is left without one of it does not have the start state
abbrev pub LacksStart : Level → Stock → ℕ → ℕ → Type 0
LacksStart level stock start x = (j : ℕ) × (slice_index_or stock.less x None ≡ Some j)
    × ¬ IsBitSet (slice_index level.starts.items j) start

-- the stock splits from some state of the table
abbrev pub SplitsFromSome : TypeTable → List ℕ → Type 0
SplitsFromSome t stock = (q : ℕ) × (q < length t.states) × StockSplits t q stock
