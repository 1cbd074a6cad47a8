-- The table of a draft, with numbers for the entries of its rows.
use Rattle.std.specs.Prelude.{ℕ, List, Option, Some, map}
use Rattle.cn_table.specs.Draft.{Draft, DraftRow, all_some, ◌>>=◌}
use Rattle.cn_table.specs.Names.{number_of}
use Rattle.cn_table.specs.TypeTable.{TypeTable, Row}

-- the number of each text among the names
abbrev pub numbers_of : List (List ℕ) → List (List ℕ) → Option (List ℕ)
numbers_of names texts = all_some (map (number_of names) texts)

unfoldable pub row_from : List (List ℕ) → List (List ℕ) → DraftRow → Option Row
row_from states responses row = do
  response ← numbers_of responses row.response
  next ← numbers_of states row.next
  Some (record { name = row.name; response = response; next = next })

abbrev pub rows_from : List (List ℕ) → List (List ℕ) → List DraftRow → Option (List Row)
rows_from states responses rows = all_some (map (row_from states responses) rows)

-- the table, if each entry of a `response` is a response and each entry of a `next` is a state
unfoldable pub table_from : Draft → Option TypeTable
table_from draft = do
  operations ← rows_from draft.states draft.responses draft.operations
  Some (record {
    name = draft.name;
    states = draft.states;
    responses = draft.responses;
    operations = operations;
  })
