-- A table as a picture for Graphviz: its states, and the operations that lead from one to another.
-- Quotes enclose every name, as in the picture of a plan.
use Rattle.std.specs.Prelude.{ℕ, List, [], ◌++◌, length, codes, flat_map, ◌==◌, if◌then◌else◌}
use Rattle.std.specs.List.{range_with_len}
use Rattle.cn_table.specs.Names.{name_at}
use Rattle.cn_table.specs.TypeTable.{TypeTable, operation_names, transition}

unfoldable pub state_dot : TypeTable → ℕ → List ℕ
state_dot t state = codes "  \"" ++ (name_at t.states state ++ (codes "\";\n" ++ []))

-- a line with an operation and its response in the first state, if it leads to the second
unfoldable pub line_dot : TypeTable → ℕ → ℕ → ℕ → List ℕ
line_dot t from next operation =
    if (transition t operation from).1 == next
    then name_at (operation_names t) operation ++ (codes "/"
    ++ (name_at t.responses (transition t operation from).0 ++ (codes "\\l" ++ [])))
    else []

-- a line for each operation that leads from one state to the other
abbrev pub label_dot : TypeTable → ℕ → ℕ → List ℕ
label_dot t from next = flat_map (line_dot t from next) (range_with_len 0 (length t.operations))

-- an arrow between two states, if some operation leads from the first to the second
unfoldable pub arrow_dot : TypeTable → ℕ → ℕ → List ℕ
arrow_dot t from next =
    if length (label_dot t from next) == 0
    then []
    else codes "  \"" ++ (name_at t.states from ++ (codes "\" -> \"" ++ (name_at t.states next
    ++ (codes "\" [label=\"" ++ (label_dot t from next ++ (codes "\"];\n" ++ []))))))

-- the arrows from a state
abbrev pub arrows_dot : TypeTable → ℕ → List ℕ
arrows_dot t from = flat_map (arrow_dot t from) (range_with_len 0 (length t.states))

unfoldable pub diagram : TypeTable → List ℕ
diagram t =
    codes "digraph \"" ++ (t.name ++ (codes "\" {\n"
    ++ (flat_map (state_dot t) (range_with_len 0 (length t.states))
    ++ (flat_map (arrows_dot t) (range_with_len 0 (length t.states)) ++ (codes "}\n" ++ [])))))
