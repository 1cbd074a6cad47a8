-- Where a stock stands.
use Rattle.std.specs.Prelude.{◌≡◌, ℕ, ◌≤◌, List, slice_get, Some}
use Rattle.cn_stocks.specs.declared.stocks.Stocks.{Stocks}
use Rattle.cn_stocks.specs.Stocks.{items_at}
use Rattle.cn_stocks.specs.Words.{times}
use Rattle.cn_collisions.specs.declared.sets.Sets.{Sets}

-- the stock stands at the place among those of so many operations
abbrev pub StandsIn : List Stocks → ℕ → ℕ → List ℕ → Type 0
StandsIn levels size place stock =
    (s : Stocks) × (slice_get levels size ≡ Some s) × (items_at s.list.items place ≡ Some stock)

abbrev pub StandsAt : Sets → ℕ → ℕ → List ℕ → Type 0
StandsAt sets size place stock = StandsIn sets.stocks.items size place stock

-- a stock that has the operation stands there
abbrev pub HasStockWith : Sets → ℕ → ℕ → ℕ → Type 0
HasStockWith sets size place operation =
    (stock : List ℕ) × StandsAt sets size place stock × (1 ≤ times operation stock)

-- some stock stands there
abbrev pub HasStock : Sets → ℕ → ℕ → Type 0
HasStock sets size place = (stock : List ℕ) × StandsAt sets size place stock
