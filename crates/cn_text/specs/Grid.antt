-- A table as a grid: a line for each operation, a column for each state.
use Rattle.std.specs.Prelude.{◌≡◌, ℕ, zero, suc, ◌+◌, ◌==◌, ◌&&◌, List, [], ◌++◌, length, codes, nat_lt}
use Rattle.std.specs.Prelude.{flat_map, get_or, Bool, true, false, if◌then◌else◌}
use Rattle.std.specs.List.{range_with_len}
use Rattle.cn_table.specs.Names.{name_at}
use Rattle.cn_table.specs.Reach.{changes_nothing, AreReached}
use Rattle.cn_table.specs.TypeTable.{TypeTable, operation_names, transition}
use Rattle.cn_text.specs.Columns.{padded, widest}

-- a cell in the column of a state is as wide as the widest response and state with four columns more;
-- the last cell of a line is not filled up
abbrev pub cell_width : TypeTable → ℕ → ℕ
cell_width t q =
    if nat_lt (q + 1) (length t.states) then widest t.responses + widest t.states + 4 else 0

unfoldable pub head_cell : TypeTable → ℕ → List ℕ
head_cell t q = padded (cell_width t q) (name_at t.states q ++ [])

-- the response of an operation in a state, and the next state
unfoldable pub cell : TypeTable → ℕ → ℕ → List ℕ
cell t o q = padded (cell_width t q) (name_at t.responses (transition t o q).0
    ++ (codes ">" ++ (name_at t.states (transition t o q).1 ++ [])))

-- the column of the operations
abbrev pub name_cell : TypeTable → List ℕ → List ℕ
name_cell t name = padded (widest (operation_names t) + 6) name

-- the end of a row; behind the first one stands the meaning of a cell
abbrev pub row_end : ℕ → List ℕ
row_end o = if o == 0 then codes "            (response > next state)\n" else codes "\n"

unfoldable pub operation_line : TypeTable → ℕ → List ℕ
operation_line t o =
    name_cell t (codes "  " ++ (name_at (operation_names t) o ++ []))
    ++ (flat_map (cell t o) (range_with_len 0 (length t.states)) ++ (row_end o ++ []))

-- the cells of the grid: a line with the states, and one for each operation
unfoldable pub cells_text : TypeTable → List ℕ
cells_text t =
    name_cell t [] ++ (flat_map (head_cell t) (range_with_len 0 (length t.states)) ++ (codes "\n"
    ++ (flat_map (operation_line t) (range_with_len 0 (length t.operations)) ++ [])))

-- a line for a state to which no operations lead from the first state
unfoldable pub state_mark : TypeTable → ℕ → Bool → List ℕ
state_mark t q is_reached =
    if is_reached then [] else codes "state " ++ (name_at t.states q
    ++ (codes ": cannot be reached from " ++ (name_at t.states 0 ++ (codes "\n" ++ []))))

-- the operation gets the same response in each of the first n states as in the first one
abbrev pub answers_alike : TypeTable → ℕ → ℕ → Bool
answers_alike t o zero = true
answers_alike t o (suc n) = answers_alike t o n && ((transition t o n).0 == (transition t o 0).0)

-- what an operation is good for that changes nothing: if its responses differ, it is a way to look
abbrev pub use_words : TypeTable → ℕ → List ℕ
use_words t o = if answers_alike t o (length t.states) then codes "\n"
    else codes "; it counts where the state cannot be read (classify --without-read)\n"

-- a line for an operation that changes nothing
unfoldable pub operation_mark : TypeTable → ℕ → List ℕ
operation_mark t o = if changes_nothing t o then codes "operation "
    ++ (name_at (operation_names t) o ++ (codes ": changes nothing" ++ (use_words t o ++ []))) else []

unfoldable pub grid_text : TypeTable → List Bool → List ℕ
grid_text t reached_states =
    t.name ++ (codes "\n" ++ (cells_text t
    ++ (flat_map (λ q. state_mark t q (get_or reached_states q false)) (range_with_len 0 (length t.states))
    ++ (flat_map (operation_mark t) (range_with_len 0 (length t.operations)) ++ []))))

-- the text of the grid of a table
abbrev pub IsGrid : TypeTable → List ℕ → Type 0
IsGrid t text =
    (reached_states : List Bool) × AreReached t reached_states × (text ≡ grid_text t reached_states)
