-- Single steps of words within stocks.
use Rattle.std.specs.Prelude.{◌≡◌, ℕ, ◌+◌, ◌<◌, List, ◌∷◌, ◌++◌, length, Some}
use Rattle.cn_table.specs.TypeTable.{TypeTable, transition}
use Rattle.cn_table.specs.Run.{state_after}
use Rattle.cn_joins.specs.Joins.{PlacedWord, asked, beginning, pair_of_word}
use Rattle.cn_stocks.specs.Reach.{EndsWithin, ShowsWithin}
use Rattle.cn_stocks.specs.Stocks.{items_at}
use Rattle.cn_stocks.specs.Words.{HaveSame, IsWithin}
use Rattle.cn_telling.specs.Asking.{AreCellsOver, AreShownOf}
use Rattle.cn_telling.specs.Settings.{AreEndsOf}
use Rattle.cn_join_find.specs.declared.steps.Cells.{Cells}
use Rattle.cn_join_find.specs.declared.steps.Step.{Step}
use Rattle.cn_join_find.specs.declared.steps.Views.{Views}

-- the stocks are of the type, each behind those that have one operation less, and beside each stand
-- the states in which words within it end
pub record AreCells (c : Cells) : Type 0 where
  pub over : AreCellsOver c.table.now c.stocks.now
  pub count : length c.ends.now ≡ length c.stocks.now
  pub ends : AreEndsOf c.table.now c.stocks.now c.ends.now

-- and beside each stand the pairs that words within it show the operation
pub record AreViews (v : Views) : Type 0 where
  pub cells : AreCells v.cells
  pub count : length v.shown.now ≡ length v.cells.stocks.now
  pub shown : AreShownOf v.cells.table.now v.asked v.cells.stocks.now v.shown.now
  pub asked_known : v.asked < length v.cells.table.now.operations

-- the stock at the place has these operations
abbrev pub StandsAt : Cells → ℕ → List ℕ → Type 0
StandsAt c place items = items_at c.stocks.now place ≡ Some items

-- behind the operation, some word within what is left ends in the state
abbrev pub EndsBehind : TypeTable → ℕ → List ℕ → ℕ → ℕ → Type 0
EndsBehind t start stock state x = (rest : List ℕ) × HaveSame stock (x ∷ rest)
    × EndsWithin t (transition t x start).1 rest state

-- behind the operation, some word within what is left shows the asked one the pair
abbrev pub ShowsBehind : TypeTable → ℕ → List ℕ → ℕ → ℕ → ℕ → ℕ → Type 0
ShowsBehind t start stock o response state x = (rest : List ℕ) × HaveSame stock (x ∷ rest)
    × ShowsWithin t (transition t x start).1 rest o response state

-- the step is by the operation from the state, and leads to an earlier stock, of one of it less
pub record IsStep (c : Cells) (place operation start : ℕ) (step : Step) : Type 0 where
  pub is_by : step.operation ≡ operation
  pub earlier : step.place < place
  pub state : step.state ≡ (transition c.table.now operation start).1
  pub rest : List ℕ
  pub at : StandsAt c step.place rest
  pub less : (items : List ℕ) → StandsAt c place items → HaveSame items (operation ∷ rest)

-- some word within what is left ends in the state
pub record IsEndsStep (c : Cells) (place operation start goal : ℕ) (step : Step) : Type 0 where
  pub is_step : IsStep c place operation start step
  pub ends : EndsWithin c.table.now step.state is_step.rest goal

-- some word within what is left shows the asked operation the pair
pub record IsShownStep (v : Views) (place operation start response state : ℕ)
    (step : Step) : Type 0 where
  pub is_step : IsStep v.cells place operation start step
  pub shows : ShowsWithin v.cells.table.now step.state is_step.rest v.asked response state

-- the words go on with one within the stock that ends in the state
abbrev pub LeadsTo : TypeTable → ℕ → List ℕ → ℕ → List ℕ → List ℕ → Type 0
LeadsTo t start stock goal old new = (word : List ℕ) × IsWithin stock word
    × (state_after t start word ≡ goal) × (new ≡ old ++ word)

-- the words go on with one within the stock that shows the operation at the place the pair
pub record LeadsToShow (t : TypeTable) (start : ℕ) (stock : List ℕ) (o response state : ℕ)
    (old new : List ℕ) (place : ℕ) : Type 0 where
  pub shows : ShowsWithin t start stock o response state
  pub goes_on : new ≡ old ++ (shows.before ++ o ∷ shows.after)
  pub place_is : place ≡ length old + length shows.before

-- the word begins with the first operation, is within the stock, and shows the asked one the pair
pub record IsShowing (t : TypeTable) (start : ℕ) (stock : List ℕ) (first o response state : ℕ)
    (w : PlacedWord) : Type 0 where
  pub within : IsWithin stock w.word
  pub has_place : w.place < length w.word
  pub begins : beginning w ≡ first
  pub asked_is : asked w ≡ o
  pub pair : pair_of_word t start w ≡ (response, state)
