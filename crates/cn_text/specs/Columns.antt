-- Texts in columns.
use Rattle.std.specs.Prelude.{ℕ, ◌-◌, max, List, [], ◌∷◌, ◌++◌, length, slice_get, unwrap_or}
use Rattle.cn_pieces.specs.Pieces.{spaces}
use Rattle.cn_table.specs.TypeTable.{TypeTable, operation_names}
use Rattle.cn_text.specs.declared.columns.Named.{Named}
use Rattle.cn_text.specs.declared.columns.Named.TheVariants.{States, Responses, Operations}

abbrev pub names_of : TypeTable → Named → List (List ℕ)
names_of t States = t.states
names_of t Responses = t.responses
names_of t Operations = operation_names t

-- the length of the longest text
abbrev pub widest : List (List ℕ) → ℕ
widest [] = 0
widest (text ∷ texts) = max (length text) (widest texts)

-- a text, filled up with spaces to a width
abbrev pub padded : ℕ → List ℕ → List ℕ
padded width text = text ++ spaces (width - length text)

-- the text in a column; it is empty where the row ends before
abbrev pub text_at : List (List ℕ) → ℕ → List ℕ
text_at row column = unwrap_or (slice_get row column) []
