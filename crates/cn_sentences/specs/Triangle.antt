-- The numbers of single operations and of pairs of operations, as rows of texts.
use Rattle.std.specs.Prelude.{◌≡◌, ℕ, ◌==◌, List, [], ◌∷◌, length, map, find, nat_lt}
use Rattle.std.specs.Prelude.{Option, option_map, if◌then◌else◌, String, Vec, string_bytes}
use Rattle.std.specs.List.{range_with_len}
use Rattle.std.specs.Option.{option_map_or}
use Rattle.std.specs.Str.{bytes_eq}
use Rattle.std.specs.declared.alloc.Global.{Global}
use Rattle.cn_table.specs.DraftView.{texts_view}
use Rattle.cn_table.specs.Names.{name_at}
use Rattle.cn_table.specs.Restriction.{with_operations}
use Rattle.cn_table.specs.TypeTable.{TypeTable, operation_names}
use Rattle.cn_search.specs.NumberText.{number_text}
use Rattle.cn_search.specs.Numbers.{HasNumber}
use Rattle.cn_search.specs.declared.exact.ConsensusNumber.{ConsensusNumber}
use Rattle.cn_pairs.specs.SetNumbers.{set_of}
use Rattle.cn_pairs.specs.declared.pairs.Pairs.{Pairs}
use Rattle.cn_pairs.specs.declared.restricted.SetNumber.{SetNumber}

-- texts in memory, and rows of them, as lists
abbrev pub texts_of : List (String Global) → List (List ℕ)
texts_of row = map (λ s. string_bytes s) row

abbrev pub rows_of : List (Vec (String Global) Global) → List (List (List ℕ))
rows_of rows = map texts_view rows

-- the number that is told of these operations, if one is
abbrev pub set_number : List SetNumber → List ℕ → Option ConsensusNumber
set_number sets operations =
    option_map (λ s. s.number) (find (λ s. bytes_eq (set_of s) operations) sets)

-- its text, or an empty one
abbrev pub set_number_text : List SetNumber → List ℕ → List ℕ
set_number_text sets operations = option_map_or number_text (set_number sets operations) []

-- the cell of two operations: the number of both, or of the one if they are the same; it is empty left
-- of that
abbrev pub cell : Pairs → ℕ → ℕ → List ℕ
cell p i j =
    if nat_lt j i then [] else (if i == j then set_number_text p.alone.items (i ∷ [])
    else set_number_text p.pairs.items (i ∷ j ∷ []))

-- the first row: a text for the corner, and the names of the operations
abbrev pub head : TypeTable → List ℕ → List (List ℕ)
head t corner = corner ∷ operation_names t

-- the row of an operation: its name, and its cell with each operation
abbrev pub row : TypeTable → Pairs → ℕ → List (List ℕ)
row t p i =
    name_at (operation_names t) i ∷ map (λ j. cell p i j) (range_with_len 0 (length t.operations))

-- the head, and the rows of all operations
abbrev pub triangle : TypeTable → Pairs → List ℕ → List (List (List ℕ))
triangle t p corner = head t corner ∷ map (λ i. row t p i) (range_with_len 0 (length t.operations))

-- the text tells the number of the type with these operations alone
abbrev pub TellsNumber : TypeTable → List ℕ → List ℕ → Type 0
TellsNumber t operations text =
    (number : ConsensusNumber) × HasNumber (with_operations t operations) number
    × (text ≡ number_text number)
