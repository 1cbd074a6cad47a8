-- The restriction of a type to some of its operations.
use Rattle.std.specs.Prelude.{ℕ, ◌<◌, ◌≤◌, List, length, map, All, AllPairs, slice_index_or}
use Rattle.cn_table.specs.TypeTable.{TypeTable, no_row}

-- operations of the type, at least one, each with a lesser number than those behind it
pub record AreOperations (t : TypeTable) (operations : List ℕ) : Type 0 where
  pub some : 1 ≤ length operations
  pub known : All (λ o. o < length t.operations) operations
  pub ascending : AllPairs (λ x y. x < y) operations

-- the type with these operations alone, in this order: all else is the same
abbrev pub with_operations : TypeTable → List ℕ → TypeTable
with_operations t operations =
    record t { operations = map (λ o. slice_index_or t.operations o no_row) operations }
