-- Words: operations that are applied one after the other. What a word shows where it begins with
-- some operation.
use Rattle.std.specs.Prelude.{◌≡◌, ℕ, ◌≤◌, ◌<◌, List, [], ◌∷◌, ◌++◌, nat_eq}
use Rattle.std.specs.List.{count_by}
use Rattle.cn_table.specs.TypeTable.{TypeTable, transition}
use Rattle.cn_table.specs.Run.{state_after}

-- how often the operation stands in the list
abbrev pub times : ℕ → List ℕ → ℕ
times o list = count_by (λ x. nat_eq x o) list

-- each operation that stands in the list is one of so many
abbrev pub IsKnown : ℕ → List ℕ → Type 0
IsKnown operations list = (o : ℕ) → 1 ≤ times o list → o < operations

-- the two lists have each operation equally often
abbrev pub HaveSame : List ℕ → List ℕ → Type 0
HaveSame a b = (o : ℕ) → times o a ≡ times o b

-- no operation stands in the word more often than in the stock
abbrev pub IsWithin : List ℕ → List ℕ → Type 0
IsWithin stock word = (o : ℕ) → times o word ≤ times o stock

abbrev pub BeginsWith : ℕ → List ℕ → Type 0
BeginsWith f [] = ⊥
BeginsWith f (x ∷ xs) = x ≡ f

-- some word within the stock that begins with f ends in the state
abbrev pub EndsIn : TypeTable → ℕ → List ℕ → ℕ → ℕ → Type 0
EndsIn t start stock f state =
    (rest : List ℕ) × IsWithin stock (f ∷ rest) × (state_after t start (f ∷ rest) ≡ state)

-- some word within the stock that begins with f has o at a place where o gets the response, and
-- ends in the state
pub record Shows (t : TypeTable) (start : ℕ) (stock : List ℕ)
    (f o response state : ℕ) : Type 0 where
  pub before : List ℕ
  pub after : List ℕ
  pub within : IsWithin stock (before ++ o ∷ after)
  pub begins : BeginsWith f (before ++ o ∷ after)
  pub answer : (transition t o (state_after t start before)).0 ≡ response
  pub ends : state_after t start (before ++ o ∷ after) ≡ state
