-- The stocks within one stock, each behind those that have one operation less.
use Rattle.std.specs.Prelude.{◌≡◌, ◌≢◌, ℕ, ◌+◌, ◌-◌, ◌<◌, ◌≤◌, List, [], ◌∷◌, ◌++◌, length, slice_get, slice_index_or, Option, Some, None}
use Rattle.cn_table.specs.declared.limits.TheConstants.{MOST_OPERATIONS}
use Rattle.cn_stocks.specs.declared.limits.TheConstants.{MOST_SIZE}
use Rattle.cn_stocks.specs.declared.stocks.Stock.{Stock}
use Rattle.cn_stocks.specs.Stocks.{AreStocks, UpTo, items_at}
use Rattle.cn_stocks.specs.Words.{HaveSame, IsWithin, times}
use Rattle.cn_telling.specs.declared.cells.Block.{Block}
use Rattle.cn_telling.specs.Settings.{LinksBelow}

-- each stock of the list has links to earlier ones, of one operation less
pub record AreLinked (list : List Stock) : Type 0 where
  pub stocks : AreStocks MOST_OPERATIONS list list
  pub back : (i : ℕ) (s : Stock) → slice_get list i ≡ Some s → LinksBelow i s

-- they are within the whole stock, which is the last of them
pub record AreCells (whole : List ℕ) (list : List Stock) : Type 0 where
  pub linked : AreLinked list
  pub within : (i : ℕ) (items : List ℕ) → items_at list i ≡ Some items → IsWithin whole items
  pub some : 1 ≤ length list
  pub last : items_at list (length list - 1) ≡ Some whole

-- the whole stock has the same operations as this one
abbrev pub AreCellsOf : List ℕ → List Stock → Type 0
AreCellsOf stock list = (whole : List ℕ) × AreCells whole list × HaveSame whole stock

-- each operation of the list is below this one
abbrev pub IsBelow : ℕ → List ℕ → Type 0
IsBelow operation list = (o : ℕ) → 1 ≤ times o list → o < operation

-- but for the operation itself, the links lead to this place or behind it
abbrev pub LinksFrom : ℕ → ℕ → List (Option ℕ) → Type 0
LinksFrom operation from less =
    (x j : ℕ) → x ≢ operation → slice_index_or less x None ≡ Some j → from ≤ j

-- the links of the stock that is put behind the block for that at the place
abbrev pub LinksNext : Block → ℕ → List (Option ℕ) → Type 0
LinksNext b place less = LinksFrom b.operation (b.first + b.size) less
    × ((x j : ℕ) → slice_index_or less x None ≡ Some j → j < place + b.size)

-- the stock at the place can have one operation more
abbrev pub HaveRoom : List Stock → ℕ → Type 0
HaveRoom list place =
    (items : List ℕ) → items_at list place ≡ Some items → length items < MOST_SIZE

-- the list ends with the block, and with the stocks that have one operation more than those of the
-- block before the place
pub record IsUnderway (b : Block) (place : ℕ) (list : List Stock) : Type 0 where
  pub linked : AreLinked list
  pub operation : b.operation < MOST_OPERATIONS
  pub up_to : (i : ℕ) (items : List ℕ) → items_at list i ≡ Some items → UpTo b.operation items
  pub from : b.first ≤ place
  pub size : 1 ≤ b.size
  pub long : length list ≡ place + b.size
  pub block : (i : ℕ) (s : Stock) → b.first ≤ i → slice_get list i ≡ Some s
      → LinksFrom b.operation b.first s.less
  pub new : (i : ℕ) (s : Stock) → b.first + b.size ≤ i → slice_get list i ≡ Some s
      → LinksFrom b.operation (b.first + b.size) s.less
  pub next : (i : ℕ) (items : List ℕ) → b.first ≤ i → i < place → items_at list i ≡ Some items
      → items_at list (i + b.size) ≡ Some (items ++ b.operation ∷ [])
