-- Texts of a group of processes in rows of two sides: where team A is first, and where team B is.
use Rattle.std.specs.Prelude.{ℕ, ◌+◌, ◌-◌, ◌==◌, List, [], ◌∷◌, ◌++◌, length, codes, max, Bool}
use Rattle.std.specs.Prelude.{flat_map, if◌then◌else◌, nat_le, nat_lt}
use Rattle.std.specs.List.{range_with_len}
use Rattle.cn_pieces.specs.Pieces.{spaces}
use Rattle.cn_reasons.specs.declared.group.ChoiceGroups.{ChoiceGroups}
use Rattle.cn_reasons.specs.declared.group.Group.{Group}
use Rattle.cn_sentences.specs.Groups.{processes}
use Rattle.cn_text.specs.Columns.{padded, text_at}
use Rattle.cn_text.specs.declared.limits.TheConstants.{WIDEST_LINE}
use Rattle.cn_text.specs.declared.sides.SideWidths.{SideWidths}

-- ---- rows

-- words before the first text of a side, and as many spaces before the others
abbrev pub heading : List ℕ → ℕ → List ℕ
heading words k = if k == 0 then words else spaces (length words)

-- a text on the left side, filled up to a width where one stands on the right
abbrev pub left_side : ℕ → List ℕ → Bool → List ℕ
left_side width text beside = padded (if beside then width else 0) (text ++ [])

-- the text on the right side, if one is left
abbrev pub right_side : List (List ℕ) → ℕ → List ℕ
right_side right k =
    if nat_lt k (length right) then heading (codes "    B first: ") k ++ text_at right k else []

unfoldable pub row : ℕ → List ℕ → List (List ℕ) → List (List ℕ) → ℕ → List ℕ
row width head left right k =
    heading head k ++ (left_side width (text_at left k) (nat_lt k (length right))
    ++ (right_side right k ++ (codes "\n" ++ [])))

-- as many rows as the longer side has texts
abbrev pub rows : ℕ → List ℕ → List (List ℕ) → List (List ℕ) → List ℕ
rows width head left right = flat_map (row width head left right)
    (range_with_len 0 (max (length left) (length right)))

-- ---- the words before the rows

-- the width of the words for so many processes
abbrev pub words_width : ℕ → ℕ
words_width count = if nat_le count 1 then 2 else (if count == 2 then 9 else 8)

-- the greatest of these widths
abbrev pub label_width : List Group → ℕ
label_width [] = 0
label_width (g ∷ gs) = max (words_width g.count) (label_width gs)

-- the widths of the columns for the groups of a choice, with texts of this width
abbrev pub widths_for : ChoiceGroups → ℕ → SideWidths
widths_for c texts = record {
  label = max (label_width c.a.items) (label_width c.b.items);
  texts = texts;
}

-- the words before the texts where team A is first: the processes, filled up to a width
unfoldable pub a_head : ℕ → Group → List ℕ
a_head width g = codes "  " ++ (processes g.first g.count
    ++ (spaces (width - words_width g.count) ++ (codes "   A first: " ++ [])))

-- the words before the texts where team B is first, in lines of their own
unfoldable pub b_head : ℕ → List ℕ
b_head width = spaces (width + 5) ++ (codes "B first: " ++ [])

-- ---- both sides

-- a line has room for two texts of this width
abbrev pub has_room : SideWidths → Bool
has_room w = nat_le (w.label + w.texts + w.texts + 27) WIDEST_LINE

-- the two sides: side by side if a line has room for them, else one below the other
abbrev pub sides : SideWidths → Group → List (List ℕ) → List (List ℕ) → List ℕ
sides w g left right =
    if has_room w then rows w.texts (a_head w.label g) left right
    else rows w.texts (a_head w.label g) left [] ++ (rows w.texts (b_head w.label) right [] ++ [])
