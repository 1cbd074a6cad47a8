-- The pairs that words within stocks show one operation.
use Rattle.std.specs.Prelude.{◌≡◌, ◌<◌, ◌↔◌, ℕ, List, ◌∷◌, length, slice_get, Some}
use Rattle.cn_table.specs.TypeTable.{TypeTable}
use Rattle.cn_stocks.specs.declared.pair_sets.PairSet.{PairSet}
use Rattle.cn_stocks.specs.declared.stocks.Stock.{Stock}
use Rattle.cn_stocks.specs.Pairs.{Has}
use Rattle.cn_stocks.specs.Reach.{ArePairsTo}
use Rattle.cn_stocks.specs.Stocks.{AreStocks}
use Rattle.cn_stocks.specs.Words.{HaveSame, Shows}
use Rattle.cn_telling.specs.declared.shown.Asking.{Asking}
use Rattle.cn_telling.specs.declared.shown.Shown.{Shown}
use Rattle.cn_telling.specs.Settings.{IsOver, LinksBelow}

-- beside each stock, as far as the list goes, the pairs that words within it show the operation
abbrev pub AreShownOf : TypeTable → ℕ → List Stock → List Shown → Type 0
AreShownOf t asked stocks shown = (j : ℕ) (stock : Stock) (s : Shown)
    → slice_get stocks j ≡ Some stock → slice_get shown j ≡ Some s
    → ArePairsTo t stock.operations.items asked s.pairs

-- the pairs of what is left of the list without one x
abbrev pub AreLessShown : TypeTable → List ℕ → ℕ → ℕ → Shown → Type 0
AreLessShown t items asked x shown =
    (rest : List ℕ) × HaveSame items (x ∷ rest) × ArePairsTo t rest asked shown.pairs

-- the stock has links to some stocks, and their ends and pairs are these
pub record IsAsking (a : Asking) : Type 0 where
  pub before : List Stock
  pub over : IsOver a.setting.table.now before a.setting.ends.now a.setting.stock.now
  pub shown_are : AreShownOf a.setting.table.now a.asked before a.shown.now
  pub within : LinksBelow (length a.shown.now) a.setting.stock.now
  pub asked_known : a.asked < length a.setting.table.now.operations

-- the pairs that words within the stock which begin with the first operation show the asked one
abbrev pub AreShownTo : Asking → ℕ → ℕ → PairSet → Type 0
AreShownTo a start first set = (r q : ℕ) → Has set r q
    ↔ Shows a.setting.table.now start a.setting.stock.now.operations.items first a.asked r q

-- each stock has links to earlier ones of the list
pub record AreCellsOver (t : TypeTable) (list : List Stock) : Type 0 where
  pub stocks : AreStocks (length t.operations) list list
  pub back : (i : ℕ) (s : Stock) → slice_get list i ≡ Some s → LinksBelow i s
