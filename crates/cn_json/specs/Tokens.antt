-- The tokens of a JSON value, in which a text is written.
use Rattle.std.specs.Prelude.{◌≡◌, ℕ, List, ◌∷◌, ◌++◌, OnOk, Result, map}
use Rattle.std.specs.Borrow.{Bor}
use Rattle.std.specs.List.{flat_map}
use Rattle.json.specs.Token.{Token, key}
use Rattle.json.specs.Tree.{json_tokens, items_tokens, members_tokens}
use Rattle.serde_json.specs.Data.{Data, Members}
use Rattle.serde_json.specs.View.{items_of}
use Rattle.serde_json.specs.Written.{outline, items_outline, members_outline}
use Rattle.cn_json.specs.Values.{primitive_data}
use Rattle.cn_json.specs.declared.json_text.Primitive.{Primitive}

abbrev pub value_tokens : Data → List Token
value_tokens d = json_tokens (outline d)

-- the values of an array, without its ends
abbrev pub each_value : List Data → List Token
each_value ds = flat_map value_tokens ds

-- a key and its value
abbrev pub member_tokens : List ℕ → Data → List Token
member_tokens k d = key k ∷ value_tokens d

-- keys and their values
abbrev pub each_member : List (Bor (List ℕ) × Primitive) → List Token
each_member ms = flat_map (λ m. member_tokens m.0.now (primitive_data m.1)) ms

-- the values that are left of an array, and its end
abbrev pub values_rest : List Data → List Token
values_rest ds = items_tokens (items_outline (items_of ds))

-- a value for each thing, and the end of the array
abbrev pub list_rest : {X : Type 0} → (X → Data) → List X → List Token
list_rest value xs = values_rest (map value xs)

-- the members that are left of an object, and its end
abbrev pub members_rest : Members → List Token
members_rest ms = members_tokens (members_outline ms)

-- these tokens stand behind the old ones, unless memory ran out
pub record Appends {T E : Type 0} (r : Result T E) (old new tokens : List Token) : Type 0 where
  pub ok : OnOk r (new ≡ old ++ tokens)
