-- How far a search has come.
use Rattle.std.specs.Prelude.{ℕ, length}
use Rattle.cn_table.specs.TypeTable.{TypeTable}
use Rattle.cn_stocks.specs.Stocks.{AreAll}
use Rattle.cn_divisions.specs.declared.search.Search.{Search}
use Rattle.cn_divisions.specs.Levels.{IsLevel}

-- all stocks of n operations, over those of one operation less with their sets
pub record IsSearch (t : TypeTable) (n : ℕ) (search : Search) : Type 0 where
  pub level : IsLevel t search.below
  pub all : AreAll (length t.operations) n search.below.stocks.list.items search.stocks
