-- The kinds of values in a certificate.
use Rattle.std.specs.Prelude.{ℕ, List, length, ◌==◌, Option, Some, None, map, is_some, option_map}
use Rattle.std.specs.Prelude.{option_and_then, if◌then◌else◌, slice_get}
use Rattle.serde_json.specs.Data.{Data, Members}
use Rattle.serde_json.specs.Find.{get_member, as_null, as_number, as_u64, as_array}
use Rattle.cn_table.specs.Draft.{all_some}
use Rattle.cn_cert.specs.Document.{list_of}

-- an unsigned integer
abbrev pub natural_of : Data → Option ℕ
natural_of d = option_and_then as_u64 (as_number d)

-- the items of an array
abbrev pub items_of : Data → Option (List Data)
items_of d = option_map list_of (as_array d)

-- a list of exactly this length
abbrev pub exactly : ℕ → List Data → Option (List Data)
exactly len items = if length items == len then Some items else None

-- the items of an array of exactly this length
abbrev pub items_of_len : ℕ → Data → Option (List Data)
items_of_len len d = option_and_then (exactly len) (items_of d)

-- an array of values of a kind
abbrev pub each_of : {X : Type 0} → (Data → Option X) → Data → Option (List X)
each_of kind d = option_and_then (λ items. all_some (map kind items)) (items_of d)

-- an array of unsigned integers
abbrev pub naturals_of : Data → Option (List ℕ)
naturals_of d = each_of natural_of d

-- an unsigned integer at a place of an array
abbrev pub natural_at : ℕ → List Data → Option ℕ
natural_at i items = option_and_then natural_of (slice_get items i)

-- an array of unsigned integers at a place of an array
abbrev pub naturals_at : ℕ → List Data → Option (List ℕ)
naturals_at i items = option_and_then naturals_of (slice_get items i)

-- null, or a value of a kind
abbrev pub nullable : {X : Type 0} → (Data → Option X) → Data → Option (Option X)
nullable kind d = if is_some (as_null d) then Some None else option_map Some (kind d)

-- a value of a kind, at a key
abbrev pub at_key : {X : Type 0} → List ℕ → (Data → Option X) → Members → Option X
at_key key kind ms = option_and_then kind (get_member key ms)
