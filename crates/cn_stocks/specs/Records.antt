-- Stocks that record: their operations fall into two parts, and the state tells for good in which
-- of these a word within the stock begins.
use Rattle.std.specs.Prelude.{◌≡◌, ℕ, ◌≤◌, ◌<◌, List, [], ◌∷◌, length, Bool, true, false}
use Rattle.cn_table.specs.TypeTable.{TypeTable}
use Rattle.cn_stocks.specs.Words.{EndsIn, IsKnown, IsWithin, times}

-- two operations of the part stand in the stock: two different ones, or one that stands there twice
abbrev pub HasTwoOf : List ℕ → (ℕ → Bool) → Bool → Type 0
HasTwoOf stock chosen part =
    (f : ℕ) × (g : ℕ) × IsWithin stock (f ∷ g ∷ []) × (chosen f ≡ part) × (chosen g ≡ part)

-- the operations of the stock fall into those that are chosen and the others, there are some of
-- both, and no state is left both by a word that begins with one of these and by one that begins
-- with one of those; where the stock has two of the others, no word that begins with a chosen one
-- leaves the start state; where it has two chosen ones, none that begins with another one does
pub record Records (t : TypeTable) (start : ℕ) (stock : List ℕ) : Type 0 where
  pub chosen : ℕ → Bool
  pub inside : (f : ℕ) × (1 ≤ times f stock) × (chosen f ≡ true)
  pub outside : (g : ℕ) × (1 ≤ times g stock) × (chosen g ≡ false)
  pub apart : (f g state : ℕ) → chosen f ≡ true → chosen g ≡ false → EndsIn t start stock f state
      → ¬ EndsIn t start stock g state
  pub no_way_back_inside : HasTwoOf stock chosen false → (f : ℕ) → chosen f ≡ true
      → ¬ EndsIn t start stock f start
  pub no_way_back_outside : HasTwoOf stock chosen true → (g : ℕ) → chosen g ≡ false
      → ¬ EndsIn t start stock g start

-- some stock of n operations of the type records from the state
abbrev pub RecordsFrom : TypeTable → ℕ → ℕ → Type 0
RecordsFrom t n start = (stock : List ℕ) × IsKnown (length t.operations) stock
    × (length stock ≡ n) × Records t start stock

-- some stock of n operations of the type records from some state
abbrev pub SomeRecords : TypeTable → ℕ → Type 0
SomeRecords t n = (start : ℕ) × (start < length t.states) × RecordsFrom t n start
