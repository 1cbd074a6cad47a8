-- The smallest sets of operations of a type that have a number.
use Rattle.std.specs.Prelude.{◌≡◌, ◌≢◌, ℕ, ◌<◌, ◌≤◌, ◌==◌, Bool, true, false, List, [], All, Contains}
use Rattle.cn_table.specs.Restriction.{with_operations}
use Rattle.cn_table.specs.TypeTable.{TypeTable}
use Rattle.cn_search.specs.Numbers.{HasNumber}
use Rattle.cn_search.specs.declared.exact.ConsensusNumber.{ConsensusNumber}
use Rattle.cn_search.specs.declared.exact.ConsensusNumber.TheVariants.{Finite, Infinite}
use Rattle.cn_pairs.specs.Firsts.{AreFirstWith}
use Rattle.cn_pairs.specs.SetNumbers.{set_of, sets_of_size}
use Rattle.cn_pairs.specs.declared.restricted.SetNumber.{SetNumber}
use Rattle.cn_pairs.specs.declared.smallest.TheConstants.{MOST_SETS}

-- the same number
abbrev pub same_number : ConsensusNumber → ConsensusNumber → Bool
same_number (Finite m) (Finite n) = m == n
same_number Infinite Infinite = true
same_number a b = false

-- each of these operations is one of the larger set
abbrev pub IsWithin : List ℕ → List ℕ → Type 0
IsWithin set larger = (o : ℕ) → Contains set o → Contains larger o

-- a set is within this one, which has another number
unfoldable pub IsWithinOther : List ℕ → ConsensusNumber → SetNumber → Type 0
IsWithinOther set number larger =
    (same_number larger.number number ≡ false) × IsWithin set (set_of larger)

-- the type with these operations alone has this number
abbrev pub HasNumberWith : TypeTable → ConsensusNumber → List ℕ → Type 0
HasNumberWith t number set = HasNumber (with_operations t set) number

-- no set of so many operations has this number
abbrev pub NoneHas : TypeTable → ℕ → ConsensusNumber → Type 0
NoneHas t size number = All (λ set. ¬ HasNumberWith t number set) (sets_of_size t size)

-- the first sets of their size with this number, and one at least; no smaller set has it
pub record AreSmallest (t : TypeTable) (n : ConsensusNumber) (sets : List (List ℕ)) : Type 0 where
  pub size : ℕ
  pub some : 1 ≤ size
  pub first : AreFirstWith (HasNumberWith t n) MOST_SETS (sets_of_size t size) sets
  pub found : sets ≢ []
  pub none_smaller : (k : ℕ) → 1 ≤ k → k < size → NoneHas t k n
