-- The prefix of the names of a program in C.
use Rattle.std.specs.Prelude.{ℕ, ◌&&◌, ◌||◌, not, nat_le, Bool, false, List, [], ◌∷◌}
use Rattle.std.specs.Prelude.{Option, None, Some, if◌then◌else◌, codes, length}
use Rattle.std.specs.List.{list_all}
use Rattle.cn_table.specs.Names.{is_from, is_letter}
use Rattle.cn_code.specs.Keywords.{is_keyword}
use Rattle.cn_code.specs.declared.prefix.TheConstants.{LONGEST_PREFIX}

-- a letter or an underscore
abbrev pub is_first_byte : ℕ → Bool
is_first_byte b = (is_from (codes "az") b || is_from (codes "AZ") b) || is_letter (codes "_") b

-- one of these or a digit
abbrev pub is_prefix_byte : ℕ → Bool
is_prefix_byte b = is_first_byte b || is_from (codes "09") b

-- it begins with a letter or an underscore
abbrev pub begins : List ℕ → Bool
begins [] = false
begins (b ∷ bs) = is_first_byte b

-- 1 to this many letters, digits and underscores, no digit first
abbrev pub is_identifier : List ℕ → Bool
is_identifier text =
    (begins text && nat_le (length text) LONGEST_PREFIX) && list_all is_prefix_byte text

-- a prefix: an identifier that is no keyword of C and of C++
abbrev pub is_prefix : List ℕ → Bool
is_prefix text = is_identifier text && not (is_keyword text)

abbrev pub prefix_in : List ℕ → Option (List ℕ)
prefix_in text = if is_prefix text then Some text else None
