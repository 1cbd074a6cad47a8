-- The JSON value that bytes spell, and its arrays and objects as lists.
use Rattle.std.specs.Prelude.{ℕ, ◌+◌, List, [], ◌∷◌, Option, None, if◌then◌else◌}
use Rattle.std.specs.Str.{is_utf8}
use Rattle.serde_json.specs.Data.{Data, Items, no_items, item, Members, no_members, member}
use Rattle.serde_json.specs.Read.{read}

-- the value, if the bytes are UTF-8 and JSON; of two equal keys the last one counts
abbrev pub document_of : List ℕ → Option Data
document_of bytes = if is_utf8 bytes then read bytes else None

-- the items of an array, as a list
abbrev pub list_of : Items → List Data
list_of no_items = []
list_of (item d ds) = d ∷ list_of ds

-- the number of keys of an object
abbrev pub members_len : Members → ℕ
members_len no_members = 0
members_len (member k d ms) = members_len ms + 1
