-- Sets of operations of a type, and the numbers of the type with these operations alone.
use Rattle.std.specs.Prelude.{◌≡◌, ℕ, List, Vec, length, map, All}
use Rattle.std.specs.List.{range_with_len}
use Rattle.std.specs.declared.alloc.Global.{Global}
use Rattle.cn_table.specs.Restriction.{with_operations}
use Rattle.cn_table.specs.TypeTable.{TypeTable}
use Rattle.cn_table.specs.declared.elements.Operation.{Operation}
use Rattle.cn_search.specs.Numbers.{HasNumber}
use Rattle.cn_pairs.specs.Sublists.{sublists}
use Rattle.cn_pairs.specs.declared.restricted.SetNumber.{SetNumber}

-- the operations by their numbers
abbrev pub numbers : List Operation → List ℕ
numbers operations = map (λ o. o.0) operations

abbrev pub set_lists : Vec (Vec Operation Global) Global → List (List ℕ)
set_lists sets = map (λ set. numbers set.items) sets.items

-- the sets of so many operations of the type, each as its ascending list, in lexicographic order
abbrev pub sets_of_size : TypeTable → ℕ → List (List ℕ)
sets_of_size t size = sublists size (range_with_len 0 (length t.operations))

abbrev pub set_of : SetNumber → List ℕ
set_of s = numbers s.operations.items

-- the number is that of the type with these operations alone
abbrev pub IsSetNumber : TypeTable → SetNumber → Type 0
IsSetNumber t s = HasNumber (with_operations t (set_of s)) s.number

-- the sets of so many operations of the type, in their order, each with its number
pub record AreSetNumbers (t : TypeTable) (size : ℕ) (sets : List SetNumber) : Type 0 where
  pub listed : map set_of sets ≡ sets_of_size t size
  pub numbers : All (IsSetNumber t) sets
