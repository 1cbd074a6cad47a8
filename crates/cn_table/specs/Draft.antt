-- A document in which each value is of its kind. Its names and counts are not checked.
use Rattle.std.specs.Prelude.{codes, ℕ, List, [], ◌∷◌, Option, Some, map, option_and_then}
use Rattle.toml.specs.Data.{Data, Members, get_member, as_str, as_table}
use Rattle.cn_table.specs.Document.{array_at}

pub record DraftRow : Type 0 where
  pub name : List ℕ
  pub response : List (List ℕ)
  pub next : List (List ℕ)

pub record Draft : Type 0 where
  pub name : List ℕ
  pub states : List (List ℕ)
  pub responses : List (List ℕ)
  pub operations : List DraftRow

abbrev pub row_names : List DraftRow → List (List ℕ)
row_names rows = map (λ row. row.name) rows

infixl 10 ◌>>=◌
abbrev pub ◌>>=◌ : {A B : Type 0} → Option A → (A → Option B) → Option B
o >>= f = option_and_then f o

-- all of them, or nothing if one is missing
abbrev pub all_some : {X : Type 0} → List (Option X) → Option (List X)
all_some [] = Some []
all_some (o ∷ os) = do
  x ← o
  xs ← all_some os
  Some (x ∷ xs)

-- the text at a key; the texts at a key
abbrev pub text_at : List ℕ → Members → Option (List ℕ)
text_at key table = option_and_then as_str (get_member key table)

abbrev pub texts_of : List Data → Option (List (List ℕ))
texts_of items = all_some (map as_str items)

abbrev pub texts_at : List ℕ → Members → Option (List (List ℕ))
texts_at key table = option_and_then texts_of (array_at key table)

unfoldable pub row_of : Members → Option DraftRow
row_of table = do
  name ← text_at (codes "name") table
  response ← texts_at (codes "response") table
  next ← texts_at (codes "next") table
  Some (record { name = name; response = response; next = next })

abbrev pub row_at : Data → Option DraftRow
row_at d = option_and_then row_of (as_table d)

abbrev pub rows_of : List Data → Option (List DraftRow)
rows_of items = all_some (map row_at items)

abbrev pub rows_at : List ℕ → Members → Option (List DraftRow)
rows_at key table = option_and_then rows_of (array_at key table)

unfoldable pub draft_of : Members → Option Draft
draft_of document = do
  name ← text_at (codes "name") document
  states ← texts_at (codes "states") document
  responses ← texts_at (codes "responses") document
  operations ← rows_at (codes "operation") document
  Some (record { name = name; states = states; responses = responses; operations = operations })
