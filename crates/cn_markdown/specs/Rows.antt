-- Rows of Markdown tables.
use Rattle.std.specs.Prelude.{codes, ℕ, ◌==◌, List, [], ◌∷◌, ◌++◌, flat_map, if◌then◌else◌, length}
use Rattle.std.specs.List.{range_with_len}

-- a cell, with the bar behind it
abbrev pub cell : List ℕ → List ℕ
cell text = codes " " ++ (text ++ (codes " |" ++ []))

abbrev pub row : List (List ℕ) → List ℕ
row cells = codes "|" ++ flat_map cell cells ++ codes "\n"

-- the cell of a column in the line below the head: the first column is aligned on the left, the others
-- as given
abbrev pub rule_cell : List ℕ → ℕ → List ℕ
rule_cell others column = if column == 0 then codes " --- |" else others

-- the line below the head
abbrev pub rule : List ℕ → ℕ → List ℕ
rule others columns =
    codes "|" ++ flat_map (rule_cell others) (range_with_len 0 columns) ++ codes "\n"

-- the same where all columns are aligned on the left
abbrev pub name_rule : ℕ → List ℕ
name_rule columns = rule (codes " --- |") columns

-- a table of a head and rows, in which all columns but the first are aligned on the right
abbrev pub table_of : List (List (List ℕ)) → List ℕ
table_of [] = []
table_of (head ∷ rows) =
    row head ++ rule (codes " ---: |") (length head) ++ flat_map row rows
