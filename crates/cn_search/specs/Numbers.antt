-- The numbers of processes with a property.
use Rattle.std.specs.Prelude.{◌≡◌, ◌↔◌, ℕ, ◌⊎◌, ◌<◌, ◌≤◌, length}
use Rattle.cn_table.specs.TypeTable.{TypeTable}
use Rattle.cn_choice.specs.Discerning.{IsDiscerning}
use Rattle.cn_search.specs.declared.exact.ConsensusNumber.{ConsensusNumber}
use Rattle.cn_search.specs.declared.exact.ConsensusNumber.TheVariants.{Finite, Infinite}

-- which numbers from 2 on have the property, for a type with this number of states: those up to n,
-- which is 1 if none has it, and which is at most 2 or the number of states; or all of them
abbrev pub IsNumberOf : (ℕ → Type 0) → ℕ → ConsensusNumber → Type 0
IsNumberOf P states (Finite n) =
    (1 ≤ n) × ((n ≤ 2) ⊎ (n ≤ states)) × (2 ≤ n → P n) × ((m : ℕ) → n < m → ¬ P m)
IsNumberOf P states Infinite = (n : ℕ) → 2 ≤ n → P n

-- the consensus number of the type, by the numbers of processes for which it is discerning
abbrev pub HasNumber : TypeTable → ConsensusNumber → Type 0
HasNumber t number = IsNumberOf (IsDiscerning t) (length t.states) number

-- the two types are discerning for the same numbers of processes, and have as many states
abbrev pub HaveSameNumbers : TypeTable → TypeTable → Type 0
HaveSameNumbers t u =
    (length t.states ≡ length u.states) × ((n : ℕ) → IsDiscerning t n ↔ IsDiscerning u n)
