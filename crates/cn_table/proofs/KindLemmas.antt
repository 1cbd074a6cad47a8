-- A document in which each value is of its kind has a draft. A draft in which each entry is a name has a table.
use Rattle.std.proofs.Common.{◌≡◌, codes, ℕ, List, [], ◌∷◌, map, Option, Some, None, Bool, true, false, cond, ◌&&◌, not, is_none, is_some, Err, refl, ◌∙◌}
use Rattle.std.specs.List.{list_all}
use Rattle.std.specs.Option.{option_map_or, ok_or}
use Rattle.std.specs.Prelude.{option_map, option_and_then}
use Rattle.toml.specs.Data.{Data, Items, Members, get_member, as_str, as_array, as_table}
use Rattle.cn_table.specs.Document.{list_of, array_at, document_of}
use Rattle.cn_table.specs.Draft.{Draft, DraftRow, all_some, ◌>>=◌, text_at, texts_at, row_of, row_at, rows_at, draft_of}
use Rattle.cn_table.specs.Names.{number_of}
use Rattle.cn_table.specs.Numbering.{numbers_of, row_from, rows_from, table_from}
use Rattle.cn_table.specs.Faults.{is_at, is_text, is_array_of, is_operation, has_unknown_key, has_missing_key, has_wrong_kind, has_bad_name, has_bad_count, has_repeated_name, has_bad_length, are_among, has_unknown_name, fault_of, reading}
use Rattle.cn_table.specs.Reads.{draft_reading, document_reading}
use Rattle.cn_table.specs.TypeTable.{TypeTable}
use Rattle.cn_table.specs.declared.fault.TableFault.TheVariants.{NotToml, UnknownKey, MissingKey, WrongKind, BadName, Count, Repeated, RowLength, UnknownName}

-- one step of a reading, if `more` says whether the rest gives a value
then_some : {A B : Type 0} (o : Option A) (f : A → Option B) (more : Bool) → ((x : A) → is_some (f x) ≡ more) → is_some (o >>= f) ≡ (is_some o && more)
then_some None f more rest = refl
then_some (Some x) f more rest = rest x

last_some : {A B : Type 0} (o : Option A) (f : A → B) → is_some (o >>= (λ x. Some (f x))) ≡ is_some o
last_some None f = refl
last_some (Some x) f = refl

all_are_some : {X Y : Type 0} (f : X → Option Y) (test : X → Bool) → ((x : X) → is_some (f x) ≡ test x) → (xs : List X) → is_some (all_some (map f xs)) ≡ list_all test xs
all_are_some f test same [] = refl
all_are_some f test same (x ∷ xs) =
    then_some (f x) _ _ (λ y. last_some (all_some (map f xs)) _) ∙ rw (same x, all_are_some f test same xs) refl

is_none-not : {X : Type 0} (o : Option X) (b : Bool) → is_some o ≡ b → not b ≡ is_none o
is_none-not None b e = rw (← e) refl
is_none-not (Some x) b e = rw (← e) refl

-- an array whose items are all of their kind gives a value
array_of : {X : Type 0} (f : Data → Option X) (kind : Data → Bool) → ((d : Data) → is_some (f d) ≡ kind d) → (key : List ℕ) (table : Members)
    → is_some (option_and_then (λ ds. all_some (map f ds)) (array_at key table)) ≡ is_at (is_array_of kind) key table
array_of f kind same key table = of_value (get_member key table) where
  of_items : (o : Option Items) → is_some (option_and_then (λ ds. all_some (map f ds)) (option_map list_of o)) ≡ option_map_or (λ items. list_all kind (list_of items)) o false
  of_items None = refl
  of_items (Some items) = all_are_some f kind same (list_of items)

  of_value : (o : Option Data) → is_some (option_and_then (λ ds. all_some (map f ds)) (option_map list_of (option_and_then as_array o))) ≡ option_map_or (is_array_of kind) o false
  of_value None = refl
  of_value (Some d) = of_items (as_array d)

text_is_at : (key : List ℕ) (table : Members) → is_some (text_at key table) ≡ is_at is_text key table
text_is_at key table = of_value (get_member key table) where
  of_value : (o : Option Data) → is_some (option_and_then as_str o) ≡ option_map_or is_text o false
  of_value None = refl
  of_value (Some d) = refl

texts_are_at : (key : List ℕ) (table : Members) → is_some (texts_at key table) ≡ is_at (is_array_of is_text) key table
texts_are_at key table = array_of as_str is_text (λ d. refl) key table

row_is_operation : (d : Data) → is_some (row_at d) ≡ is_operation d
unfolding row_of
row_is_operation d = of_table (as_table d) where
  of_table : (o : Option Members) → is_some (option_and_then row_of o)
      ≡ option_map_or (λ table. is_at is_text (codes "name") table && (is_at (is_array_of is_text) (codes "response") table && is_at (is_array_of is_text) (codes "next") table)) o false
  of_table None = refl
  of_table (Some table) =
      then_some (text_at (codes "name") table) _ _ (λ _. then_some (texts_at (codes "response") table) _ _ (λ _. last_some (texts_at (codes "next") table) _))
      ∙ rw (text_is_at (codes "name") table, texts_are_at (codes "response") table, texts_are_at (codes "next") table) refl

pub no_draft : (document : Members) → has_wrong_kind document ≡ is_none (draft_of document)
unfolding has_wrong_kind draft_of
no_draft document = is_none-not (draft_of document) _ (
    then_some (text_at (codes "name") document) _ _
    (λ _. then_some (texts_at (codes "states") document) _ _ (λ _. then_some (texts_at (codes "responses") document) _ _ (λ _. last_some (rows_at (codes "operation") document) _)))
    ∙ rw (
      text_is_at (codes "name") document,
      texts_are_at (codes "states") document,
      texts_are_at (codes "responses") document,
      array_of row_at is_operation row_is_operation (codes "operation") document,
    ) refl
    )

numbers_are_among : (names texts : List (List ℕ)) → is_some (numbers_of names texts) ≡ are_among names texts
numbers_are_among names texts = all_are_some (number_of names) _ (λ _. refl) texts

row_is_known : (states responses : List (List ℕ)) (row : DraftRow) → is_some (row_from states responses row) ≡ (are_among responses row.response && are_among states row.next)
unfolding row_from
row_is_known states responses row =
    then_some (numbers_of responses row.response) _ _ (λ _. last_some (numbers_of states row.next) _)
    ∙ rw (numbers_are_among responses row.response, numbers_are_among states row.next) refl

pub no_table : (draft : Draft) → has_unknown_name draft ≡ is_none (table_from draft)
unfolding has_unknown_name table_from
no_table draft = is_none-not (table_from draft) _ (
    last_some (rows_from draft.states draft.responses draft.operations) _
    ∙ all_are_some (row_from draft.states draft.responses) _ (row_is_known draft.states draft.responses) draft.operations
    )

-- ---- reading step by step gives the same as the list of faults

by_draft : (u m : Bool) (o : Option Draft)
    → option_map_or Err (cond u (Some UnknownKey) (cond m (Some MissingKey) (cond (is_none o) (Some WrongKind)
    (cond (option_map_or has_bad_name o false) (Some BadName) (cond (option_map_or has_bad_count o false) (Some Count)
    (cond (option_map_or has_repeated_name o false) (Some Repeated) (cond (option_map_or has_bad_length o false) (Some RowLength)
    (cond (option_map_or has_unknown_name o false) (Some UnknownName) None)))))))) (ok_or (option_and_then table_from o) UnknownName)
    ≡ cond u (Err UnknownKey) (cond m (Err MissingKey) (option_map_or draft_reading o (Err WrongKind)))
unfolding draft_reading
by_draft true m o = refl
by_draft false true o = refl
by_draft false false None = refl
by_draft false false (Some d) = of_tests (has_bad_name d) (has_bad_count d) (has_repeated_name d) (has_bad_length d) (has_unknown_name d) (table_from d) (no_table d) where
  of_tests : (n c r l u : Bool) (t : Option TypeTable) → u ≡ is_none t
      → option_map_or Err (cond n (Some BadName) (cond c (Some Count) (cond r (Some Repeated) (cond l (Some RowLength) (cond u (Some UnknownName) None))))) (ok_or t UnknownName)
      ≡ cond n (Err BadName) (cond c (Err Count) (cond r (Err Repeated) (cond l (Err RowLength) (ok_or t UnknownName))))
  of_tests true c r l u t same = refl
  of_tests false true r l u t same = refl
  of_tests false false true l u t same = refl
  of_tests false false false true u t same = refl
  of_tests false false false false true None same = refl
  of_tests false false false false false None same = refl
  of_tests false false false false true (Some t) same = cc
  of_tests false false false false false (Some t) same = refl

pub reading_by_document : (bytes : List ℕ) → reading bytes ≡ option_map_or document_reading (document_of bytes) (Err NotToml)
unfolding fault_of document_reading
reading_by_document bytes = of_document (document_of bytes) where
  in_draft_of : (Draft → Bool) → Option Members → Bool
  in_draft_of test o = option_map_or (λ document. option_map_or test (draft_of document) false) o false

  of_document : (o : Option Members)
      → option_map_or Err (cond (is_none o) (Some NotToml) (cond (option_map_or has_unknown_key o false) (Some UnknownKey)
      (cond (option_map_or has_missing_key o false) (Some MissingKey) (cond (option_map_or has_wrong_kind o false) (Some WrongKind)
      (cond (in_draft_of has_bad_name o) (Some BadName) (cond (in_draft_of has_bad_count o) (Some Count)
      (cond (in_draft_of has_repeated_name o) (Some Repeated) (cond (in_draft_of has_bad_length o) (Some RowLength)
      (cond (in_draft_of has_unknown_name o) (Some UnknownName) None))))))))) (ok_or (option_and_then (λ document. option_and_then table_from (draft_of document)) o) UnknownName)
      ≡ option_map_or document_reading o (Err NotToml)
  of_document None = refl
  of_document (Some document) = rw (no_draft document) (by_draft (has_unknown_key document) (has_missing_key document) (draft_of document))
