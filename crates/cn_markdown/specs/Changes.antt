-- The numbers of a type with other entries in Markdown.
use Rattle.std.specs.Prelude.{codes, ℕ, ◌+◌, List, [], ◌++◌, length, flat_map, Bool, if◌then◌else◌}
use Rattle.std.specs.Prelude.{Option}
use Rattle.std.specs.List.{range_with_len}
use Rattle.cn_changes.specs.Rests.{rests_on}
use Rattle.cn_changes.specs.declared.changes.Changes.{Changes}
use Rattle.cn_changes.specs.declared.pairs.PairNumbers.{PairNumbers}
use Rattle.cn_sentences.specs.Changes.{change_lines, changes_head}
use Rattle.cn_table.specs.Names.{name_at}
use Rattle.cn_table.specs.TypeTable.{TypeTable, operation_names, transition}
use Rattle.cn_markdown.specs.Rows.{name_rule}
use Rattle.cn_markdown.specs.TypeTable.{states_head}

-- what stands on both sides of an entry on which the number rests
abbrev pub bold : Bool → List ℕ
bold rests = if rests then codes "**" else []

-- the cell of an operation in a state: the response and the next state
unfoldable pub marked_cell : TypeTable → Changes → ℕ → ℕ → List ℕ
marked_cell t c o q = let given = transition t o q in
    let around = bold (rests_on c.number c.nexts.items o q) in
    codes " " ++ (around ++ (name_at t.responses given.0 ++ (codes ">"
    ++ (name_at t.states given.1 ++ (around ++ (codes " |" ++ []))))))

-- the row of an operation: its name, and its cell in each state
unfoldable pub marked_row : TypeTable → Changes → ℕ → List ℕ
marked_row t c o = codes "| " ++ (name_at (operation_names t) o ++ (codes " |"
    ++ (flat_map (marked_cell t c o) (range_with_len 0 (length t.states)) ++ (codes "\n" ++ []))))

-- the type, in which entries are bold on which the number rests
unfoldable pub marked_markdown : TypeTable → Changes → List ℕ
marked_markdown t c = states_head t ++ (name_rule (length t.states + 1)
    ++ (flat_map (marked_row t c) (range_with_len 0 (length t.operations)) ++ []))

-- the name and the number, the type, and a list of what raises the number
abbrev pub changes_markdown : TypeTable → Changes → Option PairNumbers → List ℕ
changes_markdown t c pairs =
    changes_head t c ++ codes "\n" ++ marked_markdown t c ++ codes "\n"
    ++ change_lines (codes "- ") t c pairs
