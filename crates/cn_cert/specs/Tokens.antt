-- Values, items and members at the front of the tokens of a text, with the tokens behind them.
use Rattle.std.specs.Prelude.{◌≡◌, ◌<◌, ◌-◌, map, bytes_eq, ℕ, List, length, Bool}
use Rattle.std.specs.Prelude.{true, false, Option, Some, None, option_map, option_and_then, codes}
use Rattle.std.specs.Prelude.{if◌then◌else◌}
use Rattle.json.specs.Json.{after_end_array, items, members, value}
use Rattle.json.specs.Token.{Token}
use Rattle.serde_json.specs.Data.{Data, null, array, Items, no_items, item, Members, no_members}
use Rattle.serde_json.specs.Data.{member}
use Rattle.serde_json.specs.Find.{as_str, as_array}
use Rattle.serde_json.specs.Read.{of_json, of_items, of_members, converted}
use Rattle.cn_table.specs.Draft.{all_some, ◌>>=◌}
use Rattle.cn_choice.specs.Canonical.{Choice}
use Rattle.cn_choice.specs.Collisions.{Collision}
use Rattle.cn_cert.specs.Certificate.{Certificate}
use Rattle.cn_cert.specs.Document.{list_of}
use Rattle.cn_cert.specs.Values.{natural_of, naturals_of, nullable, at_key}
use Rattle.cn_cert.specs.Draft.{choice_of, collisions_of}

-- a value that nests at most `depth` deep
abbrev pub data_at : ℕ → List Token → Option (Data × List Token)
data_at depth ts = converted of_json (value depth ts)

-- the items of an array that was opened
abbrev pub items_at : ℕ → List Token → Option (Items × List Token)
items_at depth ts = converted of_items (items (value depth) (length ts) ts)

-- the members of an object that was opened, behind those that were found
abbrev pub members_at : ℕ → Members → List Token → Option (Members × List Token)
members_at depth found ts =
    converted (λ ms. of_members ms found) (members (value depth) (length ts) ts)

-- f of the value at the front, and the tokens behind it
abbrev pub with_value : {A B : Type 0} → (A → B) → Option (A × List Token) → Option (B × List Token)
with_value f there = option_map (λ p. (f p.0, p.1)) there

-- f that keeps nothing of the value
abbrev pub nothing : {A : Type 0} → A → Unit {0}
nothing _ = tt

-- the items that are left of an array: none, if its end was taken
abbrev pub rest_at : Bool → ℕ → List Token → Option (Items × List Token)
rest_at true depth ts = items_at depth ts
rest_at false depth ts = Some (no_items, ts)

abbrev pub first_item : {X : Type 0} → (Data → Option X) → Items → Option X
first_item kind no_items = None
first_item kind (item d ds) = kind d

abbrev pub later_items : Items → Items
later_items no_items = no_items
later_items (item d ds) = ds

-- an item of a kind, and the items behind it
abbrev pub next_item : {X : Type 0} → (Data → Option X) → Items → Option X × Items
next_item kind ds = (first_item kind ds, later_items ds)

-- the choice of a state and two lists, if all three are there
abbrev pub choice_parts : Option ℕ → Option (List ℕ) → Option (List ℕ) → Option Choice
choice_parts state a b = do
  s ← state
  x ← a
  y ← b
  Some (record { state = s; a = x; b = y })

abbrev pub next_choice : Items → Option Choice × Items
next_choice ds =
    let at_a = later_items ds in
    let at_b = later_items at_a in (
      choice_parts (first_item natural_of ds) (first_item naturals_of at_a)
          (first_item naturals_of at_b),
      later_items at_b,
    )

abbrev pub is_over : Items → Bool
is_over no_items = true
is_over (item d ds) = false

-- the thing, if the test holds
abbrev pub only_if : {X : Type 0} → Bool → Option X → Option X
only_if true o = o
only_if false o = None

-- the thing that the items spell, if no item is left behind it
abbrev pub sole_thing : {X : Type 0} → (Items → Option X × Items) → Items → Option X
sole_thing parts ds = only_if (is_over (parts ds).1) (parts ds).0

-- the thing that the items of an array spell
abbrev pub in_array : {X : Type 0} → (Items → Option X) → Data → Option X
in_array by_items d = option_and_then by_items (as_array d)

-- a collision consists of two such parts: a choice, and a process with two orders
abbrev pub collision_parts : Option Choice → Option Choice → Option Collision
collision_parts choice orders = do
  c ← choice
  o ← orders
  Some (record { choice = c; process = o.state; alpha = o.a; beta = o.b })

abbrev pub next_collision : Items → Option Collision × Items
next_collision ds =
    let choice = next_choice ds in
    let orders = next_choice choice.1 in
    (collision_parts choice.0 orders.0, orders.1)

-- all items, if each is of the kind
abbrev pub all_items : {X : Type 0} → (Data → Option X) → Items → Option (List X)
all_items kind ds = all_some (map kind (list_of ds))

-- the array has another item, and no token was taken
abbrev pub IsNext : Bool → List Token → List Token → Type 0
IsNext more old new = (more ≡ true) × (after_end_array old ≡ None) × (new ≡ old)

-- the array has no other item, and its end was taken
abbrev pub IsLast : Bool → List Token → List Token → Type 0
IsLast more old new = (depth : ℕ) → rest_at more depth old ≡ Some (no_items, new)

-- the thing was taken from the items that are left of an array, and the new tokens hold the items
-- behind it
abbrev pub TakesThing : {X : Type 0} → (Items → Option X × Items) → ℕ → Option X → Bool → List Token
    → Bool → List Token → Type 0
TakesThing parts depth o more old more_after new = with_value parts (rest_at more depth old)
    ≡ with_value (λ ds. (o, ds)) (rest_at more_after depth new)

-- an array was opened, or a value of another kind was passed over
abbrev pub OpensArray : Bool → ℕ → List Token → List Token → Type 0
OpensArray true depth old new =
    (0 < depth) × (data_at depth old ≡ with_value array (items_at (depth - 1) new))
OpensArray false depth old new = with_value as_array (data_at depth old) ≡ Some (None, new)

-- the values at the six keys, each if it is of its kind
pub record MemberSlots : Type 0 where
  pub collisions : Option (List Collision)
  pub limit : Option ℕ
  pub number : Option (Option ℕ)
  pub type_name : Option (List ℕ)
  pub version : Option ℕ
  pub witness : Option (Option Choice)

abbrev pub slots_of : Members → MemberSlots
slots_of ms = record {
  collisions = at_key (codes "collisions") collisions_of ms;
  limit = at_key (codes "limit") natural_of ms;
  number = at_key (codes "number") (nullable natural_of) ms;
  type_name = at_key (codes "type") as_str ms;
  version = at_key (codes "version") natural_of ms;
  witness = at_key (codes "witness") (nullable choice_of) ms;
}

-- the values at the six keys after one more member
abbrev pub with_member : List ℕ → MemberSlots → Data → MemberSlots
with_member key s d = record {
  collisions = if bytes_eq key (codes "collisions") then collisions_of d else s.collisions;
  limit = if bytes_eq key (codes "limit") then natural_of d else s.limit;
  number = if bytes_eq key (codes "number") then nullable natural_of d else s.number;
  type_name = if bytes_eq key (codes "type") then as_str d else s.type_name;
  version = if bytes_eq key (codes "version") then natural_of d else s.version;
  witness = if bytes_eq key (codes "witness") then nullable choice_of d else s.witness;
}

-- the certificate, if each key has a value of its kind
abbrev pub draft_parts : MemberSlots → Option Certificate
draft_parts s = do
  collisions ← s.collisions
  limit ← s.limit
  number ← s.number
  type_name ← s.type_name
  version ← s.version
  witness ← s.witness
  Some (record {
    version = version;
    type_name = type_name;
    limit = limit;
    number = number;
    witness = witness;
    collisions = collisions;
  })

-- the same keys, each with null
abbrev pub keys_of : Members → Members
keys_of no_members = no_members
keys_of (member k d ms) = member k null (keys_of ms)
