-- Names of types, states, responses and operations.
use Rattle.std.specs.Prelude.{◌≤◌, codes, ℕ, List, [], ◌∷◌, length, Bool, false, IsTrue, ◌&&◌, ◌||◌}
use Rattle.std.specs.Prelude.{◌==◌, not, nat_le, Option, position, slice_get, unwrap_or}
use Rattle.std.specs.List.{list_all, list_any}
use Rattle.std.specs.Str.{bytes_eq}
use Rattle.cn_table.specs.declared.limits.TheConstants.{LONGEST_NAME}

-- a byte from the first of two letters to the last
abbrev pub is_from : List ℕ → ℕ → Bool
is_from (first ∷ last ∷ []) b = nat_le first b && nat_le b last
is_from letters b = false

-- the byte of one letter
abbrev pub is_letter : List ℕ → ℕ → Bool
is_letter (letter ∷ []) b = b == letter
is_letter letters b = false

-- a small letter, a digit or an underscore
abbrev pub is_name_byte : ℕ → Bool
is_name_byte b = (is_from (codes "az") b || is_from (codes "09") b) || is_letter (codes "_") b

-- 1 to this many such bytes
abbrev pub is_name : List ℕ → Bool
is_name text =
    (nat_le 1 (length text) && nat_le (length text) LONGEST_NAME) && list_all is_name_byte text

-- some text stands twice
abbrev pub has_repeat : List (List ℕ) → Bool
has_repeat [] = false
has_repeat (t ∷ ts) = list_any (λ u. bytes_eq u t) ts || has_repeat ts

-- the number of a name: its place among the names
abbrev pub number_of : List (List ℕ) → List ℕ → Option ℕ
number_of names text = position (λ name. bytes_eq name text) names

-- the name with this number
abbrev pub name_at : List (List ℕ) → ℕ → List ℕ
name_at names k = unwrap_or (slice_get names k) []

-- 1 to this many names, none twice
pub record IsNameList (most : ℕ) (names : List (List ℕ)) : Type 0 where
  pub some : 1 ≤ length names
  pub few : length names ≤ most
  pub named : IsTrue (list_all is_name names)
  pub distinct : IsTrue (not (has_repeat names))
