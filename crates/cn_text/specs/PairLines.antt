-- The numbers of pairs of operations for people.
use Rattle.std.specs.Prelude.{codes, ℕ, ◌==◌, List, [], ◌++◌, length, map, flat_map}
use Rattle.std.specs.Prelude.{if◌then◌else◌}
use Rattle.std.specs.List.{range_with_len}
use Rattle.cn_pairs.specs.declared.pairs.Pairs.{Pairs}
use Rattle.cn_pieces.specs.Pieces.{padding}
use Rattle.cn_table.specs.TypeTable.{TypeTable}
use Rattle.cn_sentences.specs.Smallest.{sentences}
use Rattle.cn_sentences.specs.Triangle.{triangle}
use Rattle.cn_text.specs.Columns.{text_at, widest}

-- the width of a column: the length of its longest text
abbrev pub width : List (List (List ℕ)) → ℕ → ℕ
width rows column = widest (map (λ row. text_at row column) rows)

-- a text in its column: the texts of the first column stand on the left of it, those of each other
-- column on its right, behind two spaces
abbrev pub aligned : ℕ → ℕ → List ℕ → List ℕ
aligned column width text = if column == 0 then text ++ padding width text
    else codes "  " ++ (padding width text ++ text)

-- the line of a row; each column is as wide as it is in these rows
abbrev pub aligned_line : List (List (List ℕ)) → List (List ℕ) → List ℕ
aligned_line rows row =
    flat_map (λ c. aligned c (width rows c) (text_at row c)) (range_with_len 0 (length row))
    ++ codes "\n"

abbrev pub aligned_lines : List (List (List ℕ)) → List ℕ
aligned_lines rows = flat_map (aligned_line rows) rows

-- the numbers of pairs of operations for people: the triangle and the sentences
abbrev pub pairs_text : TypeTable → Pairs → List ℕ
pairs_text t p = aligned_lines (triangle t p []) ++ sentences [] t p
