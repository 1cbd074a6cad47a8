-- What a search asks of each stock and each start state.
use Rattle.std.specs.Prelude.{◌≡◌, ◌↔◌, ℕ, ◌<◌, List, length, IsBitSet}
use Rattle.cn_table.specs.TypeTable.{TypeTable}
use Rattle.cn_stocks.specs.declared.question.Question.{Question}
use Rattle.cn_stocks.specs.declared.question.Question.TheVariants.{Recording, Splitting}
use Rattle.cn_stocks.specs.Records.{Records}
use Rattle.cn_stocks.specs.Splits.{StockSplits}
use Rattle.cn_stocks.specs.Words.{IsKnown}

-- the stock splits from the state, or it records from it
abbrev pub Holds : Question → TypeTable → ℕ → List ℕ → Type 0
Holds Splitting t start stock = StockSplits t start stock
Holds Recording t start stock = Records t start stock

-- some stock of n operations of the type does so from the state
abbrev pub HoldsFrom : Question → TypeTable → ℕ → ℕ → Type 0
HoldsFrom question t n start = (stock : List ℕ) × IsKnown (length t.operations) stock
    × (length stock ≡ n) × Holds question t start stock

-- some stock of n operations of the type does so from some state
abbrev pub SomeHolds : Question → TypeTable → ℕ → Type 0
SomeHolds question t n = (start : ℕ) × (start < length t.states) × HoldsFrom question t n start

-- the states of the table from which some stock of n operations does so
abbrev pub AreStartsOfSome : Question → TypeTable → ℕ → ℕ → Type 0
AreStartsOfSome question t n starts = (q : ℕ)
    → IsBitSet starts q ↔ ((q < length t.states) × HoldsFrom question t n q)
