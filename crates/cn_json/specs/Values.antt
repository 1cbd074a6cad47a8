-- Numbers, texts, lists and options as JSON values.
use Rattle.std.specs.Prelude.{ℕ, List, Option, None, Some, map}
use Rattle.serde_json.specs.Data.{Data, array, boolean, null, number, string}
use Rattle.serde_json.specs.Data.{unsigned}
use Rattle.serde_json.specs.View.{items_of}
use Rattle.cn_json.specs.declared.json_text.Primitive.{Primitive}
use Rattle.cn_json.specs.declared.json_text.Primitive.TheVariants.{Boolean, Byte, Null, Number, Text}

abbrev pub number_data : ℕ → Data
number_data n = number (unsigned n)

abbrev pub text_data : List ℕ → Data
text_data text = string text

-- a value that is neither an array nor an object
abbrev pub primitive_data : Primitive → Data
primitive_data (Text text) = text_data text.now
primitive_data (Number n) = number_data n
primitive_data (Byte n) = number_data n
primitive_data (Boolean b) = boolean b
primitive_data Null = null

-- an array with a value for each thing
abbrev pub list_data : {X : Type 0} → (X → Data) → List X → Data
list_data value xs = array (items_of (map value xs))

-- the value of a thing, or null
abbrev pub option_data : {X : Type 0} → (X → Data) → Option X → Data
option_data value None = null
option_data value (Some x) = value x
