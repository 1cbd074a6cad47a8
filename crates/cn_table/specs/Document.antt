-- The document that bytes spell, and the values at its keys.
use Rattle.std.specs.Prelude.{ℕ, List, [], ◌∷◌, Option, None, if◌then◌else◌, option_map}
use Rattle.std.specs.Prelude.{option_and_then}
use Rattle.std.specs.Str.{is_utf8}
use Rattle.toml.specs.Data.{Data, Items, no_items, item, Members, no_members, member, get_member}
use Rattle.toml.specs.Data.{as_array}
use Rattle.toml.specs.Parse.{parse_document}

-- the document, if the bytes are UTF-8 and TOML
abbrev pub document_of : List ℕ → Option Members
document_of bytes = if is_utf8 bytes then parse_document bytes else None

-- the items of an array, and the keys of a table
abbrev pub list_of : Items → List Data
list_of no_items = []
list_of (item d ds) = d ∷ list_of ds

abbrev pub keys_in : Members → List (List ℕ)
keys_in no_members = []
keys_in (member k d ms) = k ∷ keys_in ms

-- the items of the array at a key, if the value there is an array
abbrev pub array_at : List ℕ → Members → Option (List Data)
array_at key table = option_map list_of (option_and_then as_array (get_member key table))
