-- A type in which one entry is another.
use Rattle.std.specs.Prelude.{ℕ, ◌<◌, length, slice_index_or, slice_set}
use Rattle.cn_table.specs.TypeTable.{Row, TypeTable, no_row}

-- the entry of an operation in a state, and the response and the next state that stand there instead
pub record IsEntry (t : TypeTable) (operation state response next : ℕ) : Type 0 where
  pub known_operation : operation < length t.operations
  pub known_state : state < length t.states
  pub known_response : response < length t.responses
  pub known_next : next < length t.states

-- in this state the operation gives this response and leads to this next state
abbrev pub row_with_entry : ℕ → ℕ → ℕ → Row → Row
row_with_entry state response next row = record row {
  response = slice_set row.response state response;
  next = slice_set row.next state next;
}

-- the type in which the operation does so in this state: all else is the same
abbrev pub with_entry : TypeTable → ℕ → ℕ → ℕ → ℕ → TypeTable
with_entry t operation state response next = record t {
  operations = slice_set t.operations operation
      (row_with_entry state response next (slice_index_or t.operations operation no_row));
}
