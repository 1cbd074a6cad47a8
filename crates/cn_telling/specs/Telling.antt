-- Stocks that tell: their operations fall into two parts, and the state alone tells in which of
-- these a word within the stock begins.
use Rattle.std.specs.Prelude.{◌≡◌, ℕ, ◌≤◌, ◌<◌, List, length, Bool, true, false}
use Rattle.cn_table.specs.TypeTable.{TypeTable}
use Rattle.cn_stocks.specs.Words.{EndsIn, IsKnown, times}

-- the operations of the stock fall into those that are chosen and the others, there are some of
-- both, and no state is left both by a word that begins with one of these and by one that begins
-- with one of those
pub record Tells (t : TypeTable) (start : ℕ) (stock : List ℕ) : Type 0 where
  pub chosen : ℕ → Bool
  pub inside : (f : ℕ) × (1 ≤ times f stock) × (chosen f ≡ true)
  pub outside : (g : ℕ) × (1 ≤ times g stock) × (chosen g ≡ false)
  pub apart : (f g state : ℕ) → chosen f ≡ true → chosen g ≡ false → EndsIn t start stock f state
      → ¬ EndsIn t start stock g state

-- some stock of n operations of the type tells from the state
abbrev pub TellsFrom : TypeTable → ℕ → ℕ → Type 0
TellsFrom t n start = (stock : List ℕ) × IsKnown (length t.operations) stock
    × (length stock ≡ n) × Tells t start stock

-- some stock of n operations of the type tells from some state
abbrev pub SomeTells : TypeTable → ℕ → Type 0
SomeTells t n = (start : ℕ) × (start < length t.states) × TellsFrom t n start
