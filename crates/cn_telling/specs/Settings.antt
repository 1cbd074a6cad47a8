-- A stock over stocks of one operation less, whose ends are known.
use Rattle.std.specs.Prelude.{◌≡◌, ℕ, ◌<◌, List, ◌∷◌, length, slice_get, slice_index_or, Some, None}
use Rattle.cn_table.specs.TypeTable.{TypeTable}
use Rattle.cn_stocks.specs.declared.stocks.Stock.{Stock}
use Rattle.cn_stocks.specs.Reach.{AreEnds}
use Rattle.cn_stocks.specs.Stocks.{IsStock}
use Rattle.cn_stocks.specs.Words.{HaveSame}
use Rattle.cn_telling.specs.declared.ends.Ends.{Ends}
use Rattle.cn_telling.specs.declared.ends.Setting.{Setting}

-- beside each stock, as far as the list goes, the states in which words within it end
abbrev pub AreEndsOf : TypeTable → List Stock → List Ends → Type 0
AreEndsOf t stocks ends = (j : ℕ) (stock : Stock) (e : Ends) → slice_get stocks j ≡ Some stock
    → slice_get ends j ≡ Some e → AreEnds t stock.operations.items (length t.states) e.states

-- the links of the stock are below the end
abbrev pub LinksBelow : ℕ → Stock → Type 0
LinksBelow end stock = (x j : ℕ) → slice_index_or stock.less x None ≡ Some j → j < end

-- the stock has links to some of these stocks, and their ends are these
pub record IsOver (t : TypeTable) (before : List Stock) (ends : List Ends)
    (stock : Stock) : Type 0 where
  pub stock_is : IsStock (length t.operations) before stock
  pub ends_are : AreEndsOf t before ends
  pub within : LinksBelow (length ends) stock

-- whatever these stocks are
abbrev pub IsSetting : Setting → Type 0
IsSetting s = (before : List Stock) × IsOver s.table.now before s.ends.now s.stock.now

-- the ends of what is left of the list without one x
abbrev pub AreLessEnds : TypeTable → List ℕ → ℕ → Ends → Type 0
AreLessEnds t items x ends =
    (rest : List ℕ) × HaveSame items (x ∷ rest) × AreEnds t rest (length t.states) ends.states
