-- Stocks that split: their operations fall into two parts that no operation can tell from each
-- other's words.
use Rattle.std.specs.Prelude.{◌≡◌, ◌↔◌, ℕ, ◌≤◌, ◌<◌, List, length, Bool, true, false, IsBitSet}
use Rattle.cn_table.specs.TypeTable.{TypeTable}
use Rattle.cn_stocks.specs.Words.{IsKnown, Shows, times}

-- words that begin with f and words that begin with g show some operation the same pair
abbrev pub AreJoined : TypeTable → ℕ → List ℕ → ℕ → ℕ → Type 0
AreJoined t start stock f g = (o : ℕ) × (response : ℕ) × (state : ℕ)
    × Shows t start stock f o response state × Shows t start stock g o response state

-- the operations of the stock fall into those that are chosen and the others, there are some of
-- both, and none of these is joined with one of those
pub record StockSplits (t : TypeTable) (start : ℕ) (stock : List ℕ) : Type 0 where
  pub chosen : ℕ → Bool
  pub inside : (f : ℕ) × (1 ≤ times f stock) × (chosen f ≡ true)
  pub outside : (g : ℕ) × (1 ≤ times g stock) × (chosen g ≡ false)
  pub apart : (f g : ℕ) → chosen f ≡ true → chosen g ≡ false → ¬ AreJoined t start stock f g

-- some stock of n operations of the type splits from the state
abbrev pub SplitsFrom : TypeTable → ℕ → ℕ → Type 0
SplitsFrom t n start = (stock : List ℕ) × IsKnown (length t.operations) stock × (length stock ≡ n)
    × StockSplits t start stock

-- the states of the table from which some stock of n operations splits
abbrev pub AreSplittingStarts : TypeTable → ℕ → ℕ → Type 0
AreSplittingStarts t n starts = (q : ℕ)
    → IsBitSet starts q ↔ ((q < length t.states) × SplitsFrom t n q)

-- some stock of n operations of the type splits from some state
abbrev pub SomeSplits : TypeTable → ℕ → Type 0
SomeSplits t n = (start : ℕ) × (start < length t.states) × SplitsFrom t n start
