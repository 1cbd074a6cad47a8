-- The names of a program in C. Its words have marks: @ for what all names begin with, ^ for the same
-- in capitals, and $ for what stands before each function that others call. Nothing else of a program
-- has such a character.
use Rattle.std.specs.Prelude.{ℕ, ◌==◌, List, codes, chars, flat_map, map, if◌then◌else◌}
use Rattle.std.specs.Prelude.{Option, None, Some}
use Rattle.std.specs.Char.{encode_utf8, to_ascii_uppercase}
use Rattle.cn_table.specs.Texts.{code_of}

-- what the names begin with, and what stands before the functions
pub record Naming : Type 0 where
  pub prefix : List ℕ
  pub linkage : List ℕ

abbrev pub naming_by : List ℕ → List ℕ → Naming
naming_by prefix linkage = record { prefix = prefix; linkage = linkage }

-- names with a prefix, of functions that other files call
abbrev pub naming_with : List ℕ → Naming
naming_with prefix = naming_by prefix (codes "")

-- names with a prefix; without one, the names of a file that is included
abbrev pub naming_of : Option (List ℕ) → Naming
naming_of None = naming_by (codes "consensus") (codes "static inline ")
naming_of (Some prefix) = naming_with prefix

-- what stands for a character, with this prefix, the same in capitals, and this linkage
abbrev pub char_as : List ℕ → List ℕ → List ℕ → ℕ → List ℕ
char_as prefix capitals linkage c =
    if c == code_of (codes "@") then prefix else if c == code_of (codes "^") then capitals
    else if c == code_of (codes "$") then linkage else encode_utf8 c

-- a text with names for its marks
abbrev pub named : Naming → List ℕ → List ℕ
named n text =
    flat_map (char_as n.prefix (map to_ascii_uppercase n.prefix) n.linkage) (chars text)
