-- A finite shared object type: names, and for each operation the response and the next state of
-- each state.
use Rattle.std.specs.Prelude.{◌≡◌, ℕ, ◌<◌, List, [], length, map, IsTrue, refl, slice_index}
use Rattle.std.specs.Prelude.{slice_index_or}
use Rattle.std.specs.Coded.{Coded, code_by, coded×, coded_ℕ, coded_list}
use Rattle.std.specs.List.{AllByRecursion}
use Rattle.cn_table.specs.Names.{is_name, IsNameList}
use Rattle.cn_table.specs.declared.limits.TheConstants.{MOST_OPERATIONS, MOST_RESPONSES}
use Rattle.cn_table.specs.declared.limits.TheConstants.{MOST_STATES}

-- an operation: its name, and for each state the numbers of the response and of the next state
pub record Row : Type 0 where
  pub name : List ℕ
  pub response : List ℕ
  pub next : List ℕ

pub record TypeTable : Type 0 where
  pub name : List ℕ
  pub states : List (List ℕ)
  pub responses : List (List ℕ)
  pub operations : List Row

abbrev pub no_row : Row
no_row = record { name = []; response = []; next = [] }

-- the response that an operation gives in a state, and the next state
abbrev pub transition : TypeTable → ℕ → ℕ → ℕ × ℕ
transition t operation state = let row = slice_index_or t.operations operation no_row in
    (slice_index row.response state, slice_index row.next state)

-- a closed type: no operation leads out of its states
abbrev pub IsClosed : TypeTable → Type 0
IsClosed t = (operation state : ℕ) → operation < length t.operations → state < length t.states
    → (transition t operation state).1 < length t.states

abbrev pub operation_names : TypeTable → List (List ℕ)
operation_names t = map (λ row. row.name) t.operations

-- a row has an entry for each state, and each entry is the number of a response, or of a state
pub record IsRow (states responses : ℕ) (row : Row) : Type 0 where
  pub response_len : length row.response ≡ states
  pub next_len : length row.next ≡ states
  pub response : AllByRecursion (λ r. r < responses) row.response
  pub next : AllByRecursion (λ q. q < states) row.next

-- what every table is
pub record IsTypeTable (t : TypeTable) : Type 0 where
  pub name : IsTrue (is_name t.name)
  pub states : IsNameList MOST_STATES t.states
  pub responses : IsNameList MOST_RESPONSES t.responses
  pub operations : IsNameList MOST_OPERATIONS (operation_names t)
  pub rows : AllByRecursion (IsRow (length t.states) (length t.responses)) t.operations

-- a table as plain lists: equality and copies use these
abbrev pub texts_code : Coded (List (List ℕ))
texts_code = coded_list (coded_list coded_ℕ)

abbrev pub row_code : Coded Row
row_code =
    code_by (List ℕ × (List ℕ × List ℕ))
    (coded× (coded_list coded_ℕ) (coded× (coded_list coded_ℕ) (coded_list coded_ℕ)))
    (λ r. (r.name, (r.response, r.next)))
    (λ p. record { name = p.0; response = p.1.0; next = p.1.1 }) (λ _. refl)

abbrev pub table_code : Coded TypeTable
table_code =
    code_by (List ℕ × (List (List ℕ) × (List (List ℕ) × List Row)))
    (coded× (coded_list coded_ℕ) (coded× texts_code (coded× texts_code (coded_list row_code))))
    (λ t. (t.name, (t.states, (t.responses, t.operations))))
    (λ p. record { name = p.0; states = p.1.0; responses = p.1.1.0; operations = p.1.1.1 })
    (λ _. refl)
