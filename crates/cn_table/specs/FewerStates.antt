-- A type with some of its states, each of which stands for a class of states.
use Rattle.std.specs.Prelude.{◌≡◌, ℕ, ◌<◌, ◌≤◌, List, [], length, map, All, AllPairs, slice_index, slice_index_or}
use Rattle.cn_table.specs.TypeTable.{Row, TypeTable}

-- states of the type, at least one, each with a lesser number than those behind it; and for each state
-- of the type the place of one of them
pub record AreClasses (t : TypeTable) (kept class_of : List ℕ) : Type 0 where
  pub some : 1 ≤ length kept
  pub known : All (λ q. q < length t.states) kept
  pub ascending : AllPairs (λ x y. x < y) kept
  pub each : length class_of ≡ length t.states
  pub class : All (λ s. s < length kept) class_of

-- the operation answers in a state what it answers in the kept one, and leads to the class of the next
abbrev pub row_with : List ℕ → List ℕ → Row → Row
row_with kept class_of row = record {
  name = row.name;
  response = map (λ q. slice_index row.response q) kept;
  next = map (λ q. slice_index class_of (slice_index row.next q)) kept;
}

-- the type with these states alone, in this order: the name and the responses are the same
abbrev pub with_states : TypeTable → List ℕ → List ℕ → TypeTable
with_states t kept class_of = record t {
  states = map (λ q. slice_index_or t.states q []) kept;
  operations = map (row_with kept class_of) t.operations;
}

-- the row has entries for the kept states, and a class for each next state
pub record HasEntries (kept class_of : List ℕ) (row : Row) : Type 0 where
  pub response : All (λ q. q < length row.response) kept
  pub next : All (λ q. q < length row.next) kept
  pub class : All (λ q. q < length class_of) row.next
