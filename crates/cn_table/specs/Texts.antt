-- Texts, which are lists of bytes.
use Rattle.std.specs.Prelude.{codes, ℕ, List, [], ◌∷◌, ◌++◌, flat_map}

-- the byte of one letter
abbrev pub code_of : List ℕ → ℕ
code_of [] = 0
code_of (code ∷ rest) = code

abbrev pub line_feed : List ℕ
line_feed = codes "\n"

-- the texts one after another, with the separator between two
abbrev pub joined_texts : List ℕ → List (List ℕ) → List ℕ
joined_texts separator [] = []
joined_texts separator (text ∷ texts) = text ++ flat_map (λ t. separator ++ t) texts
