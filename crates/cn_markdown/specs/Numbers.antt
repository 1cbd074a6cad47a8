-- A Markdown table of types and their numbers.
use Rattle.std.specs.Prelude.{codes, ℕ, List, [], ◌∷◌, ◌++◌, length, Bool, Option, option_to_list, if◌then◌else◌}
use Rattle.cn_markdown.specs.Rows.{row, rule}

-- the heads of the columns
abbrev pub number_heads : Bool → Bool → List (List ℕ)
number_heads recoverable without_read = codes "Type" ∷ codes "Consensus number"
    ∷ (if recoverable then codes "Recoverable" ∷ [] else [])
    ++ (if without_read then codes "Without read" ∷ [] else [])

-- the head of a table, and the line below it
abbrev pub head_of : List (List ℕ) → List ℕ
head_of heads = row heads ++ rule (codes " ---: |") (length heads)

abbrev pub numbers_head : Bool → Bool → List ℕ
numbers_head recoverable without_read = head_of (number_heads recoverable without_read)

-- the head where the recoverable number stands alone
abbrev pub recoverable_head : List ℕ
recoverable_head = head_of (codes "Type" ∷ codes "Recoverable consensus number" ∷ [])

-- the head where the number without reads stands alone
abbrev pub unread_head : List ℕ
unread_head = head_of (codes "Type" ∷ codes "Consensus number without reads" ∷ [])

-- the cells of a type: its name and its number, and its recoverable number and its number without
-- reads if these are told
abbrev pub number_cells : List ℕ → List ℕ → Option (List ℕ) → Option (List ℕ) → List (List ℕ)
number_cells name number recoverable without_read =
    name ∷ number ∷ option_to_list recoverable ++ option_to_list without_read

abbrev pub numbers_row : List ℕ → List ℕ → Option (List ℕ) → Option (List ℕ) → List ℕ
numbers_row name number recoverable without_read =
    row (number_cells name number recoverable without_read)
