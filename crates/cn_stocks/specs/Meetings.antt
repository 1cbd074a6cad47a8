-- Sets that meet, step by step. A set is a number whose bit q says whether q is in it.
use Rattle.std.specs.Prelude.{◌≡◌, ◌≢◌, ◌↔◌, ℕ, List, slice_index, IsBitSet, Bool, true, false}
use Rattle.cn_table.specs.TypeTable.{TypeTable}
use Rattle.cn_stocks.specs.Words.{EndsIn, times}

-- the set at the place has q
abbrev pub HasAt : List ℕ → ℕ → ℕ → Type 0
HasAt sets place q = IsBitSet (slice_index sets place) q

-- for each operation the states that words within the stock leave which begin with it
abbrev pub AreLeft : TypeTable → ℕ → List ℕ → List ℕ → Type 0
AreLeft t start stock sets = (f q : ℕ) → HasAt sets f q ↔ EndsIn t start stock f q

-- a set that has an element of the other one is within it
abbrev pub IsClosed : List ℕ → ℕ → Type 0
IsClosed sets set = (f q r : ℕ) → HasAt sets f q → IsBitSet set q → HasAt sets f r → IsBitSet set r

-- each choice of places that has the first one, and with a place each whose set meets its set, has
-- for each element of the set a place that has it
abbrev pub AreGathered : List ℕ → ℕ → ℕ → Type 0
AreGathered sets first set =
    (chosen : ℕ → Bool) → chosen first ≡ true
    → ((f g q : ℕ) → chosen f ≡ true → HasAt sets f q → HasAt sets g q → chosen g ≡ true)
    → (q : ℕ) → IsBitSet set q → (f : ℕ) × (chosen f ≡ true) × HasAt sets f q

-- the sets that are not empty fall into those that are chosen and the others, there are some of
-- both, and none of these meets one of those
pub record FallApart (sets : List ℕ) : Type 0 where
  pub chosen : ℕ → Bool
  pub inside : (f : ℕ) × (chosen f ≡ true) × ((q : ℕ) × HasAt sets f q)
  pub outside : (g : ℕ) × (chosen g ≡ false) × ((q : ℕ) × HasAt sets g q)
  pub apart : (f g q : ℕ) → chosen f ≡ true → chosen g ≡ false → HasAt sets f q → ¬ HasAt sets g q

-- the set at the place meets no other one, and another one is not empty
pub record IsAlone (sets : List ℕ) (place : ℕ) : Type 0 where
  pub other : (g : ℕ) × (g ≢ place) × ((q : ℕ) × HasAt sets g q)
  pub apart : (g q : ℕ) → g ≢ place → HasAt sets g q → ¬ HasAt sets place q

-- the set at the place is not empty and does not meet this one
pub record IsOutside (sets : List ℕ) (set place : ℕ) : Type 0 where
  pub some : (q : ℕ) × HasAt sets place q
  pub apart : (q : ℕ) → HasAt sets place q → ¬ IsBitSet set q

-- the operation stands once in the stock, its set does not have the start state, and it meets no
-- other one
pub record IsSingle (stock sets : List ℕ) (start f : ℕ) : Type 0 where
  pub once : times f stock ≡ 1
  pub no_way_back : ¬ HasAt sets f start
  pub alone : IsAlone sets f
