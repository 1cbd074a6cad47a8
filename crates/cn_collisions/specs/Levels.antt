-- All stocks of up to so many operations, and their sets.
use Rattle.std.specs.Prelude.{◌≡◌, ℕ, suc, ◌+◌, ◌-◌, ◌<◌, ◌≤◌, List, [], length, slice_get, Some}
use Rattle.std.specs.declared.alloc.Global.{Global}
use Rattle.std.specs.declared.vec.Vec.{Vec}
use Rattle.cn_table.specs.TypeTable.{TypeTable}
use Rattle.cn_choice.specs.declared.limits.TheConstants.{MOST_PROCESSES}
use Rattle.cn_stocks.specs.declared.stocks.Stock.{Stock}
use Rattle.cn_stocks.specs.declared.stocks.Stocks.{Stocks}
use Rattle.cn_stocks.specs.Stocks.{AreAll, AreLong, AreStocks}
use Rattle.cn_collisions.specs.declared.sets.Level.{Level}
use Rattle.cn_collisions.specs.declared.sets.Sets.{Sets}
use Rattle.cn_collisions.specs.declared.word_sets.Shown.{Shown}
use Rattle.cn_stocks.specs.Each.{EachAt}
use Rattle.cn_collisions.specs.WordSets.{AreSetsOf, IsEnds, IsShown}

-- for each number of operations below the count, all stocks of so many, each with its smaller
-- stocks, of one operation less
pub record AreLevels (operations count : ℕ) (levels : List Stocks) : Type 0 where
  pub long : length levels ≡ count
  pub first : (s : Stocks) → slice_get levels 0 ≡ Some s → AreAll operations 0 [] s
  pub next : (m : ℕ) (b s : Stocks) → slice_get levels m ≡ Some b
      → slice_get levels (suc m) ≡ Some s → AreAll operations (m + 1) b.list.items s

-- for each number of operations below the count, the sets of all stocks of so many
abbrev pub AreAllSets : {E : Type 0} → (ℕ → List ℕ → E → Type 0) → List Stocks → ℕ
    → List (Vec E Global) → Type 0
AreAllSets Is levels count sets =
    EachAt (λ m e. (s : Stocks) → slice_get levels m ≡ Some s
    → AreSetsOf Is m s.list.items e.items) count sets

-- stocks of m operations beside those of one operation less
pub record AreBeside (operations m : ℕ) (before stocks : List Stock) : Type 0 where
  pub stocks_are : AreStocks operations before stocks
  pub long : AreLong stocks m

-- the stocks of the level have their ends, and those of one operation less their pairs
pub record IsLevel (level : Level) : Type 0 where
  pub few : level.size < MOST_PROCESSES
  pub before : List Stock
  pub beside : AreBeside (length level.table.now.operations) level.size before level.stocks.now
  pub below : AreSetsOf (IsShown level.table.now) (level.size - 1) before level.below.now
  pub ends : AreSetsOf (IsEnds level.table.now) level.size level.stocks.now level.ends.now

-- a stock of such a level stands there
abbrev pub IsPlaceOf : Level → ℕ → Type 0
IsPlaceOf level place = IsLevel level × (place < length level.stocks.now)

-- the pairs of the stock that stands there
abbrev pub IsShownAt : Level → ℕ → Shown → Type 0
IsShownAt level place shown = (s : Stock) → slice_get level.stocks.now place ≡ Some s
    → IsShown level.table.now level.size s.operations.items shown

-- the table of the sets, and the number of processes of the choices that they are for
abbrev pub table_of : Sets → TypeTable
table_of s = s.table.now

abbrev pub number_of : Sets → ℕ
number_of s = s.n

-- the sets are those of their table for choices for their number of processes
pub record AreSomeSets (s : Sets) : Type 0 where
  pub some : 2 ≤ s.n
  pub few : s.n ≤ MOST_PROCESSES
  pub levels : AreLevels (length s.table.now.operations) (s.n + 1) s.stocks.items
  pub ends_are : AreAllSets (IsEnds s.table.now) s.stocks.items s.n s.ends.items
  pub shown_are : AreAllSets (IsShown s.table.now) s.stocks.items (s.n - 1) s.shown.items

-- they are those of this table for choices for n processes
abbrev pub AreSetsFor : TypeTable → ℕ → Sets → Type 0
AreSetsFor t n s = (table_of s ≡ t) × (number_of s ≡ n) × AreSomeSets s
