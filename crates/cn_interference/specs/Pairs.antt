-- Pairs of operations that do not interfere in some state.
use Rattle.std.specs.Prelude.{◌≡◌, ◌⊎◌, ℕ, ◌<◌, List, length, AllPairs, Contains, ◌↔◌}
use Rattle.cn_table.specs.TypeTable.{TypeTable}
use Rattle.cn_interference.specs.Interference.{Interfere}
use Rattle.cn_interference.specs.declared.pairs.OperationPair.{OperationPair}

-- in some state the two operations do not interfere
abbrev pub AreApart : TypeTable → ℕ → ℕ → Type 0
AreApart t f g = (q : ℕ) × (q < length t.states) × ¬ Interfere t f g q

-- two operations of the type, the one with the lesser number first, that do not interfere in some
-- state
abbrev pub IsPairApart : TypeTable → OperationPair → Type 0
IsPairApart t pair =
    (pair.first.0 < pair.second.0) × (pair.second.0 < length t.operations)
    × AreApart t pair.first.0 pair.second.0

-- the first operation of the pair has a lesser number than this one, or it is this one and the
-- second has a lesser number than that one
abbrev pub IsPairBelow : ℕ → ℕ → OperationPair → Type 0
IsPairBelow f g pair = (pair.first.0 < f) ⊎ ((pair.first.0 ≡ f) × (pair.second.0 < g))

abbrev pub PairComesBefore : OperationPair → OperationPair → Type 0
PairComesBefore x y = IsPairBelow y.first.0 y.second.0 x

-- the list has exactly the pairs that do not interfere in some state, each before each later one
pub record ArePairsApart (t : TypeTable) (pairs : List OperationPair) : Type 0 where
  pub listed : (pair : OperationPair) → Contains pairs pair ↔ IsPairApart t pair
  pub ascending : AllPairs PairComesBefore pairs

-- so far: exactly those of them below this pair
pub record ArePairsBelow (t : TypeTable) (f g : ℕ) (pairs : List OperationPair) : Type 0 where
  pub listed : (pair : OperationPair)
      → Contains pairs pair ↔ (IsPairApart t pair × IsPairBelow f g pair)
  pub ascending : AllPairs PairComesBefore pairs
