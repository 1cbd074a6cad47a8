-- The kinds of JSON values in a certificate by stocks, whose numbers are not above the greatest.
use Rattle.std.specs.Prelude.{ℕ, ◌-◌, ◌^◌, ◌==◌, List, [], ◌∷◌, Bool, true, false, ◌&&◌, ◌||◌, nat_le}
use Rattle.std.specs.Prelude.{codes, is_some}
use Rattle.std.specs.Option.{option_map_or}
use Rattle.std.specs.List.{list_all}
use Rattle.serde_json.specs.Data.{Data}
use Rattle.serde_json.specs.Find.{as_null, as_object, as_str, get}
use Rattle.cn_table.specs.Names.{is_name}
use Rattle.cn_cert.specs.Document.{members_len}
use Rattle.cn_cert.specs.Values.{items_of, natural_of}
use Rattle.cn_stock_cert.specs.StockText.{stock_version}

-- the greatest number of a text, and that of a certificate
abbrev pub any_number : ℕ
any_number = 2 ^ 64 - 1

abbrev pub greatest : ℕ
greatest = 255

-- an unsigned integer up to the greatest
abbrev pub is_number : ℕ → Data → Bool
is_number most d = option_map_or (λ n. nat_le n most) (natural_of d) false

-- this number
abbrev pub is_this : ℕ → Data → Bool
is_this n d = option_map_or (λ m. m == n) (natural_of d) false

-- an array of values of a kind
abbrev pub is_array : (Data → Bool) → Data → Bool
is_array kind d = option_map_or (list_all kind) (items_of d) false

abbrev pub is_number_list : ℕ → Data → Bool
is_number_list most d = is_array (is_number most) d

-- an array whose items pass the test together
abbrev pub is_row : (List Data → Bool) → Data → Bool
is_row test d = option_map_or test (items_of d) false

-- a choice: `[state, a, b]`
abbrev pub are_team_parts : ℕ → List Data → Bool
are_team_parts most (state ∷ a ∷ b ∷ []) =
    is_number most state && (is_number_list most a && is_number_list most b)
are_team_parts most _ = false

-- sets of states: `[state, many, single, alone, behind, first]`
abbrev pub are_lasting_parts : ℕ → List Data → Bool
are_lasting_parts most (state ∷ many ∷ single ∷ alone ∷ behind ∷ first ∷ []) =
    is_number most state && (is_number most many && (is_number most single
    && (is_number_list most alone && (is_number_list most behind && is_number_list most first))))
are_lasting_parts most _ = false

-- a join: `[state, word, place, word, place]`
abbrev pub are_join_parts : ℕ → List Data → Bool
are_join_parts most (state ∷ first ∷ place ∷ second ∷ other ∷ []) =
    is_number most state && (is_number_list most first && (is_number most place
    && (is_number_list most second && is_number most other)))
are_join_parts most _ = false

abbrev pub is_join : ℕ → Data → Bool
is_join most d = is_row (are_join_parts most) d

-- null, or a value of a kind
abbrev pub is_null_or : (Data → Bool) → Data → Bool
is_null_or kind d = is_some (as_null d) || kind d

-- an object with so many keys
abbrev pub has_keys : ℕ → Data → Bool
has_keys count d = option_map_or (λ ms. members_len ms == count) (as_object d) false

-- a value of a kind, at a key
abbrev pub has_at : List ℕ → (Data → Bool) → Data → Bool
has_at key kind d = option_map_or kind (get key d) false

-- an object with one key, for evidence
abbrev pub is_evidence : ℕ → Data → Bool
is_evidence most d = has_keys 1 d && (has_at (codes "witness") (is_row (are_team_parts most)) d
    || has_at (codes "lasting") (is_row (are_lasting_parts most)) d)

abbrev pub is_least : ℕ → Data → Bool
is_least most d = is_null_or (is_evidence most) d

abbrev pub is_most : ℕ → Data → Bool
is_most most d = is_null_or (is_array (is_join most)) d

-- a text that passes the test
abbrev pub is_text : (List ℕ → Bool) → Data → Bool
is_text test d = option_map_or test (as_str d) false

-- an object with the six keys and no other, each with a value of its kind
abbrev pub is_certificate : ℕ → (List ℕ → Bool) → Data → Bool
is_certificate most is_known d = has_keys 6 d
    && (has_at (codes "at_least") (is_null_or (is_number most)) d
    && (has_at (codes "at_most") (is_null_or (is_number most)) d
    && (has_at (codes "least") (is_least most) d
    && (has_at (codes "most") (is_most most) d
    && (has_at (codes "type") (is_text is_known) d
    && has_at (codes "version") (is_number any_number) d)))))

-- the value has the shape of a certificate
abbrev pub has_shape : Data → Bool
has_shape d = is_certificate any_number (λ text. true) d

-- its version is that of certificates by stocks
abbrev pub has_version : Data → Bool
has_version d = has_at (codes "version") (is_this stock_version) d

-- its numbers and its name are those of a certificate
abbrev pub is_in_range : Data → Bool
is_in_range d = is_certificate greatest is_name d
