-- How the stock of a list is found, operation by operation.
use Rattle.std.specs.Prelude.{◌≡◌, ℕ, ◌+◌, ◌<◌, ◌≤◌, List}
use Rattle.cn_stocks.specs.Stocks.{UpTo}
use Rattle.cn_stocks.specs.Words.{HaveSame, times}
use Rattle.cn_collisions.specs.declared.places.StockPlace.{StockPlace}
use Rattle.cn_collisions.specs.declared.sets.Sets.{Sets}
use Rattle.cn_collisions.specs.Stands.{StandsAt}

-- the stock has each operation below the end as often as the list, and no other one
pub record IsUpTo (list : List ℕ) (end : ℕ) (stock : List ℕ) : Type 0 where
  pub below : (o : ℕ) → o < end → times o stock ≡ times o list
  pub none : (o : ℕ) → end ≤ o → times o stock ≡ 0

-- such a stock stands there
abbrev pub HasUpTo : Sets → List ℕ → ℕ → StockPlace → Type 0
HasUpTo sets list end at =
    (stock : List ℕ) × StandsAt sets at.size at.place stock × IsUpTo list end stock

-- the stock has besides the operation so many times
pub record IsGathered (list : List ℕ) (end count : ℕ) (stock : List ℕ) : Type 0 where
  pub below : (o : ℕ) → o < end → times o stock ≡ times o list
  pub here : times end stock ≡ count
  pub none : (o : ℕ) → end + 1 ≤ o → times o stock ≡ 0

-- a stock that can have one more of the operation at its end stands there
abbrev pub HasRoomForMore : Sets → ℕ → StockPlace → Type 0
HasRoomForMore sets operation at = (stock : List ℕ) × StandsAt sets at.size at.place stock
    × UpTo operation stock × (at.size < sets.n)

-- the stock of the list stands there
abbrev pub HasPlace : Sets → List ℕ → ℕ → Type 0
HasPlace sets list place = (stock : List ℕ) × StandsAt sets sets.n place stock × HaveSame list stock
