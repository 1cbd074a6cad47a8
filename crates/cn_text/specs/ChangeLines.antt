-- The numbers of a type with other entries, for people.
use Rattle.std.specs.Prelude.{codes, ℕ, ◌==◌, List, [], ◌++◌, length, flat_map, Bool, if◌then◌else◌}
use Rattle.std.specs.Prelude.{Option}
use Rattle.std.specs.List.{range_with_len}
use Rattle.cn_changes.specs.Rests.{rests_on}
use Rattle.cn_changes.specs.declared.changes.Changes.{Changes}
use Rattle.cn_changes.specs.declared.pairs.PairNumbers.{PairNumbers}
use Rattle.cn_sentences.specs.Changes.{change_lines, changes_head}
use Rattle.cn_table.specs.Names.{name_at}
use Rattle.cn_table.specs.TypeTable.{TypeTable, operation_names, transition}
use Rattle.cn_text.specs.Columns.{padded}
use Rattle.cn_text.specs.Grid.{cell_width, head_cell, name_cell}

-- the mark of an entry on which the number rests
abbrev pub mark : Bool → List ℕ
mark rests = if rests then codes "*" else []

-- the response of an operation in a state, the next state, and the mark
unfoldable pub marked_cell : TypeTable → Changes → ℕ → ℕ → List ℕ
marked_cell t c o q = padded (cell_width t q) (name_at t.responses (transition t o q).0
    ++ (codes ">" ++ (name_at t.states (transition t o q).1
    ++ (mark (rests_on c.number c.nexts.items o q) ++ []))))

-- the end of a row; behind the first one stands the meaning of a cell
abbrev pub marked_end : ℕ → List ℕ
marked_end o = if o == 0
    then codes "            (response > next state; * the number rests on it)\n" else codes "\n"

unfoldable pub marked_line : TypeTable → Changes → ℕ → List ℕ
marked_line t c o = name_cell t (codes "  " ++ (name_at (operation_names t) o ++ []))
    ++ (flat_map (marked_cell t c o) (range_with_len 0 (length t.states)) ++ (marked_end o ++ []))

-- the cells of the grid: a line with the states, and one for each operation
unfoldable pub marked_grid : TypeTable → Changes → List ℕ
marked_grid t c =
    name_cell t [] ++ (flat_map (head_cell t) (range_with_len 0 (length t.states)) ++ (codes "\n"
    ++ (flat_map (marked_line t c) (range_with_len 0 (length t.operations)) ++ [])))

-- the name and the number, the grid with its marks, and the lines of what raises the number
abbrev pub changes_text : TypeTable → Changes → Option PairNumbers → List ℕ
changes_text t c pairs = changes_head t c ++ marked_grid t c ++ change_lines [] t c pairs
