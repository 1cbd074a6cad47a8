-- A type as a Markdown table: a row for each operation, a column for each state.
use Rattle.std.specs.Prelude.{codes, ℕ, ◌+◌, List, [], ◌++◌, length, flat_map}
use Rattle.std.specs.List.{range_with_len}
use Rattle.cn_table.specs.Names.{name_at}
use Rattle.cn_table.specs.TypeTable.{TypeTable, operation_names, transition}
use Rattle.cn_markdown.specs.Rows.{cell, name_rule}

abbrev pub state_cell : TypeTable → ℕ → List ℕ
state_cell t q = cell (name_at t.states q)

-- the head: what a cell tells, and the states
unfoldable pub states_head : TypeTable → List ℕ
states_head t = codes "| response > next state |"
    ++ (flat_map (state_cell t) (range_with_len 0 (length t.states)) ++ (codes "\n" ++ []))

-- the cell of an operation in a state: the response and the next state
abbrev pub step_cell : TypeTable → ℕ → ℕ → List ℕ
step_cell t o q = let given = transition t o q in
    codes " " ++ (name_at t.responses given.0 ++ (codes ">" ++ (name_at t.states given.1
    ++ (codes " |" ++ []))))

-- the row of an operation: its name, and its cell in each state
unfoldable pub operation_row : TypeTable → ℕ → List ℕ
operation_row t o = codes "| " ++ (name_at (operation_names t) o ++ (codes " |"
    ++ (flat_map (step_cell t o) (range_with_len 0 (length t.states)) ++ (codes "\n" ++ []))))

unfoldable pub type_markdown : TypeTable → List ℕ
type_markdown t = states_head t ++ (name_rule (length t.states + 1)
    ++ (flat_map (operation_row t) (range_with_len 0 (length t.operations)) ++ []))
