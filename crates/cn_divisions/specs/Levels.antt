-- What is known of all stocks of one number of operations.
use Rattle.std.specs.Prelude.{◌≡◌, ℕ, ◌<◌, List, ◌∷◌, length, slice_get, Some, IsBitSet}
use Rattle.cn_table.specs.TypeTable.{TypeTable}
use Rattle.cn_meetings.specs.Meeting.{Sight}
use Rattle.cn_stocks.specs.declared.stocks.Stock.{Stock}
use Rattle.cn_stocks.specs.Each.{EachAt}
use Rattle.cn_stocks.specs.Reach.{AreEnds, AreShown}
use Rattle.cn_stocks.specs.Stocks.{IsStock}
use Rattle.cn_stocks.specs.Words.{HaveSame}
use Rattle.cn_divisions.specs.declared.levels.Level.{Level}
use Rattle.cn_divisions.specs.declared.levels.Setting.{Setting}
use Rattle.cn_divisions.specs.declared.levels.Starts.{Starts}
use Rattle.cn_meetings.specs.declared.sight.Sight as sights
use Rattle.cn_divisions.specs.declared.word_sets.Ends.{Ends}
use Rattle.cn_divisions.specs.declared.word_sets.Shown.{Shown}
use Rattle.cn_divisions.specs.Joins.{IsSplit}
use Rattle.cn_meetings.specs.Sights.{sight_of}

-- the states in which words end, for each of the first stocks
abbrev pub AreAllEnds : TypeTable → List Stock → ℕ → List Ends → Type 0
AreAllEnds t stocks count ends = EachAt (λ i ends. (s : Stock) → slice_get stocks i ≡ Some s
    → AreEnds t s.operations.items (length t.states) ends.states) count ends

-- the pairs that words show, for each of the first stocks
abbrev pub AreAllShown : TypeTable → List Stock → ℕ → List Shown → Type 0
AreAllShown t stocks count shown = EachAt (λ i shown. (s : Stock) → slice_get stocks i ≡ Some s
    → AreShown t s.operations.items shown.pairs.items) count shown

-- the set has each state from which the stock is split
abbrev pub HasStarts : TypeTable → Sight → List ℕ → ℕ → Type 0
HasStarts t sight stock set = (q : ℕ) → q < length t.states → IsSplit t sight q stock
    → IsBitSet set q

-- such a set for each of the first stocks
abbrev pub AreStarts : TypeTable → Sight → List Stock → ℕ → List ℕ → Type 0
AreStarts t sight stocks count sets = EachAt (λ i set. (s : Stock) → slice_get stocks i ≡ Some s
    → HasStarts t sight s.operations.items set) count sets

-- such sets for all stocks, by each of the sights
abbrev pub AreAllStarts : TypeTable → List sights.Sight → List Stock → List Starts → Type 0
AreAllStarts t list stocks starts = EachAt (λ i s. (sight : sights.Sight)
    → slice_get list i ≡ Some sight
    → AreStarts t (sight_of sight) stocks (length stocks) s.sets.items) (length list) starts

-- the sets of all stocks of the level
pub record IsLevel (t : TypeTable) (level : Level) : Type 0 where
  pub ends : AreAllEnds t level.stocks.list.items (length level.stocks.list.items) level.ends.items
  pub shown : AreAllShown t level.stocks.list.items (length level.stocks.list.items)
      level.shown.items

-- a stock of one operation more than those of the level
pub record IsNext (t : TypeTable) (level : Level) (stock : Stock) : Type 0 where
  pub level_is : IsLevel t level
  pub stock_is : IsStock (length t.operations) level.stocks.list.items stock

abbrev pub AreNext : TypeTable → Level → List Stock → Type 0
AreNext t level stocks = (i : ℕ) (s : Stock) → slice_get stocks i ≡ Some s → IsNext t level s

abbrev pub IsSetting : Setting → Type 0
IsSetting s = IsNext s.table.now s.level.now s.stock.now

-- the ends of what is left of the list without one x
abbrev pub AreLessEnds : TypeTable → List ℕ → ℕ → Ends → Type 0
AreLessEnds t items x ends =
    (rest : List ℕ) × HaveSame items (x ∷ rest) × AreEnds t rest (length t.states) ends.states

-- the pairs of what is left of the list without one x
abbrev pub AreLessShown : TypeTable → List ℕ → ℕ → Shown → Type 0
AreLessShown t items x shown =
    (rest : List ℕ) × HaveSame items (x ∷ rest) × AreShown t rest shown.pairs.items

-- the set has each state from which the stock is split with one operation less
abbrev pub HasLessStarts : Setting → Sight → ℕ → Type 0
HasLessStarts s sight set = (x : ℕ) (rest : List ℕ)
    → HaveSame s.stock.now.operations.items (x ∷ rest) → HasStarts s.table.now sight rest set
