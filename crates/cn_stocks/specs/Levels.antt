-- What a search knows of all stocks of one number of operations.
use Rattle.std.specs.Prelude.{◌≡◌, ◌↔◌, ℕ, ◌<◌, List, ◌∷◌, length, slice_index, slice_index_or}
use Rattle.std.specs.Prelude.{Some, None, IsBitSet}
use Rattle.std.specs.List.{AllZip}
use Rattle.cn_table.specs.TypeTable.{TypeTable}
use Rattle.cn_stocks.specs.declared.levels.Level.{Level}
use Rattle.cn_stocks.specs.declared.levels.Setting.{Setting}
use Rattle.cn_stocks.specs.declared.question.Question.{Question}
use Rattle.cn_stocks.specs.declared.question.Question.TheVariants.{Splitting}
use Rattle.cn_stocks.specs.declared.search.Search.{Search}
use Rattle.cn_stocks.specs.declared.stocks.Stock.{Stock}
use Rattle.cn_stocks.specs.declared.word_sets.Ends.{Ends}
use Rattle.cn_stocks.specs.declared.word_sets.Shown.{Shown}
use Rattle.cn_stocks.specs.Questions.{Holds}
use Rattle.cn_stocks.specs.Reach.{AreEnds, AreShown}
use Rattle.cn_stocks.specs.Stocks.{AreAll, IsStock, SomeAll}
use Rattle.cn_stocks.specs.Words.{HaveSame}

-- the states of the table from which the stock has what is asked for
abbrev pub AreStarts : Question → TypeTable → List ℕ → ℕ → Type 0
AreStarts question t stock starts = (q : ℕ)
    → IsBitSet starts q ↔ ((q < length t.states) × Holds question t q stock)

-- these states for each stock
abbrev pub AreAllStarts : Question → TypeTable → List Stock → List ℕ → Type 0
AreAllStarts question t stocks starts =
    AllZip (λ stock starts. AreStarts question t stock.operations.items starts) stocks starts

-- the states in which words end, for each stock
abbrev pub AreAllEnds : TypeTable → List Stock → List Ends → Type 0
AreAllEnds t stocks ends = AllZip
    (λ stock ends. AreEnds t stock.operations.items (length t.states) ends.states) stocks ends

-- the pairs that words show, for each stock
abbrev pub AreAllShown : TypeTable → List Stock → List Shown → Type 0
AreAllShown t stocks shown =
    AllZip (λ stock shown. AreShown t stock.operations.items shown.pairs.items) stocks shown

-- the start states and the sets of all stocks of the level; whether a stock records is found
-- without the pairs
pub record IsLevel (question : Question) (t : TypeTable) (level : Level) : Type 0 where
  pub starts : AreAllStarts question t level.stocks.list.items level.starts.items
  pub ends : AreAllEnds t level.stocks.list.items level.ends.items
  pub shown : question ≡ Splitting → AreAllShown t level.stocks.list.items level.shown.items

-- a stock of one operation more than those of the level
pub record IsNext (question : Question) (t : TypeTable) (level : Level)
    (stock : Stock) : Type 0 where
  pub level_is : IsLevel question t level
  pub stock_is : IsStock (length t.operations) level.stocks.list.items stock

-- whatever is asked
pub record IsSomeNext (t : TypeTable) (level : Level) (stock : Stock) : Type 0 where
  pub question : Question
  pub next : IsNext question t level stock

abbrev pub IsSetting : Question → Setting → Type 0
IsSetting question s = IsNext question s.table.now s.level.now s.stock.now

abbrev pub IsSomeSetting : Setting → Type 0
IsSomeSetting s = IsSomeNext s.table.now s.level.now s.stock.now

-- the ends of what is left of the list without one x
abbrev pub AreLessEnds : TypeTable → List ℕ → ℕ → Ends → Type 0
AreLessEnds t items x ends =
    (rest : List ℕ) × HaveSame items (x ∷ rest) × AreEnds t rest (length t.states) ends.states

-- the pairs of what is left of the list without one x
abbrev pub AreLessShown : TypeTable → List ℕ → ℕ → Shown → Type 0
AreLessShown t items x shown =
    (rest : List ℕ) × HaveSame items (x ∷ rest) × AreShown t rest shown.pairs.items

-- the set has the start states of each stock that has one operation less
abbrev pub HasLessStarts : Setting → ℕ → Type 0
HasLessStarts s set =
    (x j q : ℕ) → slice_index_or s.stock.now.less x None ≡ Some j
    → IsBitSet (slice_index s.level.now.starts.items j) q → IsBitSet set q

-- all stocks of n operations, over some stocks of one operation less, and what is known of them
pub record IsLevelOf (question : Question) (t : TypeTable) (n : ℕ) (level : Level) : Type 0 where
  pub level_is : IsLevel question t level
  pub all : SomeAll (length t.operations) n level.stocks

-- all stocks of n operations, each with the states from which it has what is asked for, over the
-- stocks of one operation less
pub record IsSearch (t : TypeTable) (n : ℕ) (search : Search) : Type 0 where
  pub below : IsLevel search.question t search.below
  pub stocks : AreAll (length t.operations) n search.below.stocks.list.items search.stocks
  pub starts : AreAllStarts search.question t search.stocks.list.items search.starts.items

-- the search asks this
abbrev pub IsSearchFor : Question → TypeTable → ℕ → Search → Type 0
IsSearchFor question t n search = (search.question ≡ question) × IsSearch t n search
