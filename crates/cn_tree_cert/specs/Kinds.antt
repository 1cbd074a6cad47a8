-- The kinds of JSON values in a certificate of a plan tree, whose numbers are not above the greatest.
use Rattle.std.specs.Prelude.{ℕ, ◌-◌, ◌^◌, ◌==◌, List, [], ◌∷◌, Bool, true, false, ◌&&◌, ◌||◌, nat_le}
use Rattle.std.specs.Prelude.{codes, is_some}
use Rattle.std.specs.Option.{option_map_or}
use Rattle.std.specs.List.{list_all}
use Rattle.serde_json.specs.Data.{Data}
use Rattle.serde_json.specs.Find.{as_bool, as_object, as_str, get}
use Rattle.cn_table.specs.Names.{is_name}
use Rattle.cn_cert.specs.Document.{members_len}
use Rattle.cn_cert.specs.Values.{items_of, natural_of}
use Rattle.cn_tree_cert.specs.TreeText.{tree_version}

-- the greatest number of a text, and that of a certificate
abbrev pub any_number : ℕ
any_number = 2 ^ 64 - 1

abbrev pub greatest : ℕ
greatest = 255

-- an unsigned integer up to the greatest
abbrev pub is_number : ℕ → Data → Bool
is_number most d = option_map_or (λ n. nat_le n most) (natural_of d) false

-- this number
abbrev pub is_this : ℕ → Data → Bool
is_this n d = option_map_or (λ m. m == n) (natural_of d) false

-- an array of values of a kind
abbrev pub is_array : (Data → Bool) → Data → Bool
is_array kind d = option_map_or (list_all kind) (items_of d) false

-- an array whose items pass the test together
abbrev pub is_row : (List Data → Bool) → Data → Bool
is_row test d = option_map_or test (items_of d) false

-- what the processes of a node see of the state
abbrev pub is_sight : ℕ → Data → Bool
is_sight most d = is_some (as_bool d) || is_number most d

-- a node: `[state, sight, operations, teams]`
abbrev pub are_node_parts : ℕ → List Data → Bool
are_node_parts most (start ∷ sight ∷ operations ∷ teams ∷ []) =
    is_number most start && (is_sight most sight
    && (is_array (is_number most) operations && is_array (is_number most) teams))
are_node_parts most _ = false

abbrev pub is_node : ℕ → Data → Bool
is_node most d = is_row (are_node_parts most) d

-- an object with so many keys
abbrev pub has_keys : ℕ → Data → Bool
has_keys count d = option_map_or (λ ms. members_len ms == count) (as_object d) false

-- a value of a kind, at a key
abbrev pub has_at : List ℕ → (Data → Bool) → Data → Bool
has_at key kind d = option_map_or kind (get key d) false

-- a text that passes the test
abbrev pub is_text : (List ℕ → Bool) → Data → Bool
is_text test d = option_map_or test (as_str d) false

-- an object with the five keys and no other, each with a value of its kind
abbrev pub is_certificate : ℕ → (List ℕ → Bool) → Data → Bool
is_certificate most is_known d = has_keys 5 d
    && (has_at (codes "nodes") (is_array (is_node most)) d
    && (has_at (codes "processes") (is_number most) d
    && (has_at (codes "steps") (is_number most) d
    && (has_at (codes "type") (is_text is_known) d
    && has_at (codes "version") (is_number any_number) d))))

-- the value has the shape of a certificate
abbrev pub has_shape : Data → Bool
has_shape d = is_certificate any_number (λ text. true) d

-- its version is that of certificates of plan trees
abbrev pub has_version : Data → Bool
has_version d = has_at (codes "version") (is_this tree_version) d

-- its numbers and its name are those of a certificate
abbrev pub is_in_range : Data → Bool
is_in_range d = is_certificate greatest is_name d
