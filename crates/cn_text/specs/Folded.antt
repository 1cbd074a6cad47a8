-- Lines that are folded: a line that is too wide goes on in the next line.
use Rattle.std.specs.Prelude.{◌≡◌, ℕ, ◌+◌, ◌-◌, ◌==◌, List, [], ◌∷◌, ◌++◌, codes, length}
use Rattle.std.specs.Prelude.{slice_index, Bool, not, ◌&&◌, flat_map, if◌then◌else◌, nat_le, nat_lt}
use Rattle.std.specs.List.{slice_split}
use Rattle.std.specs.Str.Lines.{lines}
use Rattle.cn_pieces.specs.Pieces.{spaces}
use Rattle.cn_table.specs.Texts.{code_of}
use Rattle.cn_text.specs.declared.limits.TheConstants.{MARGIN, WIDEST_LINE}

-- the columns that must fit into the line: those of the word, or, behind a gap of more than two
-- spaces inside a line, the `rest` of all words from it on
abbrev pub kept_together : ℕ → ℕ → ℕ → List ℕ → ℕ
kept_together left gap rest word =
    if nat_lt left WIDEST_LINE && nat_lt 2 gap then rest else length word

-- these columns, with the spaces before them, fit into the columns that are left of the line
abbrev pub fits : ℕ → ℕ → ℕ → List ℕ → Bool
fits left gap rest word = nat_le (gap + kept_together left gap rest word) left

-- the end of a line, and the spaces before the rest of it in the next line
abbrev pub margin : List ℕ
margin = codes "\n" ++ spaces MARGIN

-- the word behind the spaces, or at the margin of the next line
abbrev pub placed : ℕ → ℕ → ℕ → List ℕ → List ℕ
placed left gap rest word = (if fits left gap rest word then spaces gap else margin) ++ word

-- the columns that are left of its line behind the word
abbrev pub left_behind : ℕ → ℕ → ℕ → List ℕ → ℕ
left_behind left gap rest word =
    if fits left gap rest word then left - gap - length word else WIDEST_LINE - MARGIN - length word

-- the words, with a space between two; `left` columns are left of the line, `gap` spaces stand
-- before the first word, and the words take `rest` columns (more spaces between two words have
-- empty words between them)
abbrev pub laid : ℕ → ℕ → ℕ → List (List ℕ) → List ℕ
laid left gap rest [] = []
laid left gap rest (word ∷ words) =
    if length word == 0 then laid left (gap + 1) (rest - length word - 1) words
    else placed left gap rest word
    ++ laid (left_behind left gap rest word) 1 (rest - length word - 1) words

-- the words of a text
abbrev pub words : List ℕ → List (List ℕ)
words text = slice_split (λ byte. byte == code_of (codes " ")) text

-- the words of the rest of a line, or of a whole one; `left` columns are left of the line, and
-- `gap` spaces stand before the rest
abbrev pub laid_rest : ℕ → ℕ → List ℕ → List ℕ
laid_rest left gap rest = laid left gap (length rest) (words rest)

-- the line, in as many lines as it needs
abbrev pub folded_line : List ℕ → List ℕ
folded_line line = laid_rest WIDEST_LINE 0 line ++ codes "\n"

-- each line of the text, in as many lines as it needs
unfoldable pub folded : List ℕ → List ℕ
folded text = flat_map folded_line (lines text)

-- ---- a text, folded in pieces

-- the last byte of the text ends a line
abbrev pub ends_in_line : List ℕ → Bool
ends_in_line text =
    nat_lt 0 (length text) && slice_index text (length text - 1) == code_of (codes "\n")

-- behind a text and lines that are not folded yet stands this piece: some of the lines are folded
-- behind the text now, and the others are left
abbrev pub FoldsBehind : List ℕ → List ℕ → List ℕ → List ℕ → List ℕ → Type 0
FoldsBehind text lines piece new_text new_lines =
    (rest : List ℕ)
    → new_text ++ folded (new_lines ++ rest) ≡ text ++ folded (lines ++ (piece ++ rest))

-- ---- the rest of a line, cut

-- the rest, as if it were one word
abbrev pub laid_as_word : ℕ → ℕ → List ℕ → List ℕ
laid_as_word left gap rest = if length rest == 0 then [] else placed left gap (length rest) rest

-- a word at the front of the rest, and then the other text behind a space
abbrev pub word_then : ℕ → ℕ → List ℕ → List ℕ → List ℕ → List ℕ
word_then left gap rest word other =
    if length word == 0 then laid_rest left (gap + 1) other
    else placed left gap (length rest) word
    ++ laid_rest (left_behind left gap (length rest) word) 1 other

-- the front of the rest up to a space can be laid as one word, before the other text
abbrev pub IsFront : ℕ → ℕ → List ℕ → List ℕ → List ℕ → Type 0
IsFront left gap rest front other =
    (laid_rest left gap rest ≡ word_then left gap rest front other)
    × (length rest ≡ length front + 1 + length other) × (rest ≡ front ++ (codes " " ++ other))

-- the last byte of the text is of a word
abbrev pub ends_in_word : List ℕ → Bool
ends_in_word text =
    nat_lt 0 (length text) && not (slice_index text (length text - 1) == code_of (codes " "))

-- the rest fits, with the spaces before it, and ends in a word
abbrev pub fits_whole : ℕ → ℕ → List ℕ → Bool
fits_whole left gap rest = nat_le (gap + length rest) left && ends_in_word rest
