-- The flaws of the bytes of a table, in the order of the faults.
use Rattle.std.specs.Prelude.{codes, ℕ, ◌+◌, List, [], ◌∷◌, ◌++◌, length, map, flat_map, take, drop}
use Rattle.std.specs.Prelude.{if◌then◌else◌, Bool}
use Rattle.std.specs.Prelude.{true, ◌==◌, Option, Some, None, is_some, nat_le, unwrap_or, Vec}
use Rattle.std.specs.Prelude.{string_bytes}
use Rattle.std.specs.List.{AllByRecursion, list_any}
use Rattle.std.specs.Option.{option_map_or}
use Rattle.std.specs.Str.{bytes_eq, is_utf8}
use Rattle.std.specs.declared.alloc.Global.{Global}
use Rattle.toml.specs.Data.{Data, Members, get_member, as_array, as_table}
use Rattle.toml.specs.Parse.{parse_document}
use Rattle.cn_table.specs.Document.{keys_in, array_at}
use Rattle.cn_table.specs.Draft.{Draft, DraftRow, row_names, draft_of, text_at}
use Rattle.cn_table.specs.Faults.{root_keys, operation_keys, is_text, is_array_of}
use Rattle.cn_table.specs.Names.{is_name, number_of}
use Rattle.cn_flaws.specs.FlawPath.{PathPart, path_view, table_path, key_path, item_path}
use Rattle.cn_flaws.specs.FlawPath.{list_path, name_path}
use Rattle.cn_flaws.specs.FlawText.{place_after, not_toml_text, operation_text, other_key_text}
use Rattle.cn_flaws.specs.FlawText.{missing_key_text}
use Rattle.cn_flaws.specs.FlawText.{kind_text, no_operation_text, bad_name_text, too_many_text}
use Rattle.cn_flaws.specs.FlawText.{too_few_text}
use Rattle.cn_flaws.specs.FlawText.{IsPlain, repeated_text, length_text, entry_text, names_in_brackets}
use Rattle.cn_table.specs.declared.fault.TableFault.{TableFault}
use Rattle.cn_table.specs.declared.fault.TableFault.TheVariants.{NotToml, UnknownKey, MissingKey}
use Rattle.cn_table.specs.declared.fault.TableFault.TheVariants.{WrongKind, BadName, Count}
use Rattle.cn_table.specs.declared.fault.TableFault.TheVariants.{Repeated, RowLength, UnknownName}
use Rattle.cn_flaws.specs.declared.document_flaws.Kind.{Kind}
use Rattle.cn_flaws.specs.declared.document_flaws.Kind.TheVariants.{Text, Texts, Tables}
use Rattle.cn_flaws.specs.declared.document_flaws.FlawClass.{FlawClass}
use Rattle.cn_flaws.specs.declared.document_flaws.FlawClass.TheVariants.{OtherKeys, MissingKeys}
use Rattle.cn_flaws.specs.declared.document_flaws.FlawClass.TheVariants.{Kinds}
use Rattle.cn_flaws.specs.declared.flaw.Flaw as code_flaw
use Rattle.cn_flaws.specs.declared.flaw.Position.{Position}
use Rattle.cn_flaws.specs.declared.path.Holder.{Holder}
use Rattle.cn_flaws.specs.declared.path.Holder.TheVariants.{Root, Operation}
use Rattle.cn_flaws.specs.declared.path.NameList.{NameList}
use Rattle.cn_flaws.specs.declared.path.NameList.TheVariants.{States, Responses, Operations}
use Rattle.cn_table.specs.declared.limits.TheConstants.{MOST_OPERATIONS, MOST_RESPONSES}
use Rattle.cn_table.specs.declared.limits.TheConstants.{MOST_STATES}

-- a fault; the path to its place in the document, and its line and column where the text is no
-- TOML; the text of the error and its place
pub record Flaw : Type 0 where
  pub fault : TableFault
  pub path : List PathPart
  pub position : Option Position
  pub text : List ℕ

-- one flaw of a document
abbrev pub flaw : TableFault → List PathPart → List ℕ → List Flaw
flaw fault path text =
    record { fault = fault; path = path; position = None; text = text } ∷ []

-- the one flaw of a text that is no TOML
abbrev pub not_toml : Position → List Flaw
not_toml position = record {
  fault = NotToml;
  path = [];
  position = Some position;
  text = not_toml_text position;
} ∷ []

-- flaws in memory
abbrev pub flaw_view : code_flaw.Flaw → Flaw
flaw_view f = record {
  fault = f.fault;
  path = path_view f.path;
  position = f.position;
  text = string_bytes f.text;
}

abbrev pub flaws_view : Vec code_flaw.Flaw Global → List Flaw
flaws_view v = map flaw_view v.items

-- the flaws of each thing, with the places counted from i on
abbrev pub each : {X : Type 0} → (ℕ → X → List Flaw) → ℕ → List X → List Flaw
each find i [] = []
each find i (x ∷ xs) = find i x ++ each find (i + 1) xs

-- ---- of a document

-- the keys of a table that are none of these
abbrev pub other_keys : Holder → List ℕ → List ℕ → List (List ℕ) → List (List ℕ) → List Flaw
other_keys holder before after known keys =
    flat_map (λ key. if list_any (λ k. bytes_eq k key) known then []
    else flaw UnknownKey (key_path holder key) (other_key_text before after key)) keys

-- those of these keys that a table lacks; the path leads to the table
abbrev pub missing_keys : Holder → List ℕ → List (List ℕ) → Members → List Flaw
missing_keys holder place known table =
    flat_map (λ key. if is_some (get_member key table) then []
    else flaw MissingKey (table_path holder) (missing_key_text place key)) known

abbrev pub is_array : Data → Bool
is_array d = is_some (as_array d)

-- whether a value is of the kind, and the words for the kind; the items of an array of tables are
-- judged one by one
abbrev pub is_of : Kind → Data → Bool
is_of Text = is_text
is_of Texts = is_array_of is_text
is_of Tables = is_array

abbrev pub kind_name : Kind → List ℕ
kind_name Text = codes "a text"
kind_name Texts = codes "an array of texts"
kind_name Tables = codes "an array of tables"

-- a value that is not of this kind
abbrev pub wrong_kind : Kind → Holder → List ℕ → List ℕ → Members → List Flaw
wrong_kind kind holder before key table =
    if option_map_or (is_of kind) (get_member key table) true then []
    else flaw WrongKind (key_path holder key) (kind_text before key (kind_name kind))

-- the words for the table of an operation
abbrev pub table_text : ℕ → Members → List ℕ
table_text i table = operation_text i (unwrap_or (text_at (codes "name") table) [])

-- the flaws of the table of an operation: keys beside its three, those of the three that are
-- missing, values of a wrong kind
abbrev pub table_flaws : FlawClass → ℕ → Members → List Flaw
table_flaws OtherKeys i table = other_keys (Operation i) (table_text i table ++ codes ", ")
    (codes ": an operation has name, response, next") operation_keys (keys_in table)
table_flaws MissingKeys i table =
    missing_keys (Operation i) (table_text i table) operation_keys table
table_flaws Kinds i table =
    wrong_kind Text (Operation i) (table_text i table ++ codes ", ") (codes "name") table
    ++ (wrong_kind Texts (Operation i) (table_text i table ++ codes ", ") (codes "response") table
    ++ wrong_kind Texts (Operation i) (table_text i table ++ codes ", ") (codes "next") table)

-- the flaws of what is no table
abbrev pub no_table_flaws : FlawClass → ℕ → List Flaw
no_table_flaws OtherKeys i = []
no_table_flaws MissingKeys i = []
no_table_flaws Kinds i = flaw WrongKind (table_path (Operation i)) (no_operation_text i)

-- the flaws of an item of the array `operation`
abbrev pub item_flaws : FlawClass → ℕ → Data → List Flaw
item_flaws flaw_class i d =
    option_map_or (table_flaws flaw_class i) (as_table d) (no_table_flaws flaw_class i)

-- the flaws of all items, if there is such an array
abbrev pub operation_flaws : FlawClass → Members → List Flaw
operation_flaws flaw_class document =
    option_map_or (each (item_flaws flaw_class) 0) (array_at (codes "operation") document) []

-- the flaws of the root
abbrev pub root_flaws : FlawClass → Members → List Flaw
root_flaws OtherKeys document = other_keys Root []
    (codes ": the root has name, states, responses, operation") root_keys (keys_in document)
root_flaws MissingKeys document = missing_keys Root (codes "the root") root_keys document
root_flaws Kinds document =
    wrong_kind Text Root [] (codes "name") document
    ++ (wrong_kind Texts Root [] (codes "states") document
    ++ (wrong_kind Texts Root [] (codes "responses") document
    ++ wrong_kind Tables Root [] (codes "operation") document))

-- the flaws of the whole document
abbrev pub flaws_by : FlawClass → Members → List Flaw
flaws_by flaw_class document = root_flaws flaw_class document ++ operation_flaws flaw_class document

-- ---- of a draft

-- the word for a name of a list
abbrev pub list_word : NameList → List ℕ
list_word States = codes "state"
list_word Responses = codes "response"
list_word Operations = codes "operation"

-- a text that is no name, at the end of this path
abbrev pub bad_name : List PathPart → List ℕ → List ℕ → List Flaw
bad_name path what name =
    if is_name name then [] else flaw BadName path (bad_name_text what name)

-- those of a list
abbrev pub bad_names : NameList → List (List ℕ) → List Flaw
bad_names list names = each (λ i. bad_name (name_path list i) (list_word list)) 0 names

unfoldable pub name_flaws : Draft → List Flaw
name_flaws draft =
    bad_name (key_path Root (codes "name")) (codes "name") draft.name
    ++ (bad_names States draft.states
    ++ (bad_names Responses draft.responses
    ++ bad_names Operations (row_names draft.operations)))

-- a count of a list that is not from 1 to this many
abbrev pub bad_count : NameList → ℕ → ℕ → List Flaw
bad_count list most count =
    if nat_le 1 count then (if nat_le count most then []
    else flaw Count (list_path list) (too_many_text (list_word list) most count))
    else flaw Count (list_path list) (too_few_text (list_word list))

unfoldable pub count_flaws : Draft → List Flaw
count_flaws draft =
    bad_count States MOST_STATES (length draft.states)
    ++ (bad_count Responses MOST_RESPONSES (length draft.responses)
    ++ bad_count Operations MOST_OPERATIONS (length draft.operations))

-- the places, counted from i on, at which the name stands
abbrev pub places_of : List ℕ → ℕ → List (List ℕ) → List ℕ
places_of name i [] = []
places_of name i (t ∷ ts) =
    if bytes_eq t name then i ∷ places_of name (i + 1) ts else places_of name (i + 1) ts

-- the name is one of these
abbrev pub stands_in : List (List ℕ) → List ℕ → Bool
stands_in names name = list_any (λ t. bytes_eq t name) names

-- the last of these places, or i if there are none
abbrev pub last_place : ℕ → List ℕ → ℕ
last_place i [] = i
last_place i (k ∷ ks) = last_place k ks

-- the name at place i with all its places; the path leads to the last of them
abbrev pub repeated : NameList → List (List ℕ) → ℕ → List ℕ → List Flaw
repeated list names i name = let places = places_of name 0 names in
    flaw Repeated (name_path list (last_place i places))
    (repeated_text (list_word list) places name)

-- the name at place i, if it stands there first and again behind
abbrev pub repeat_at : NameList → List (List ℕ) → ℕ → List ℕ → List Flaw
repeat_at list names i name =
    if stands_in (take i names) name then [] else
    (if stands_in (drop (i + 1) names) name then repeated list names i name else [])

-- each name that stands more than once
abbrev pub repeats : NameList → List (List ℕ) → List Flaw
repeats list names = each (repeat_at list names) 0 names

unfoldable pub repeat_flaws : Draft → List Flaw
repeat_flaws draft =
    repeats States draft.states ++ (repeats Responses draft.responses
    ++ repeats Operations (row_names draft.operations))

-- a row of operation i that lacks an entry for each state
abbrev pub bad_length : ℕ → List ℕ → List ℕ → ℕ → ℕ → List Flaw
bad_length i operation row count states = if count == states then []
    else flaw RowLength (key_path (Operation i) row) (length_text operation row count states)

abbrev pub row_lengths : ℕ → ℕ → DraftRow → List Flaw
row_lengths states i row =
    let operation = operation_text i row.name in
    bad_length i operation (codes "response") (length row.response) states
    ++ bad_length i operation (codes "next") (length row.next) states

unfoldable pub length_flaws : Draft → List Flaw
length_flaws draft = each (row_lengths (length draft.states)) 0 draft.operations

-- an entry of a row of operation i that is no known name
abbrev pub unknown_entry : ℕ → List ℕ → List ℕ → List ℕ → List (List ℕ) → ℕ → List ℕ → List Flaw
unknown_entry i operation row what names k text =
    if is_some (number_of names text) then []
    else flaw UnknownName (item_path (Operation i) row k)
    (entry_text operation row k text what (names_in_brackets names))

abbrev pub row_entries : List (List ℕ) → List (List ℕ) → ℕ → DraftRow → List Flaw
row_entries states responses i row =
    let operation = operation_text i row.name in
    each (unknown_entry i operation (codes "response") (codes "response") responses) 0 row.response
    ++ each (unknown_entry i operation (codes "next") (codes "state") states) 0 row.next

unfoldable pub entry_flaws : Draft → List Flaw
entry_flaws draft = each (row_entries draft.states draft.responses) 0 draft.operations

unfoldable pub draft_flaws : Draft → List Flaw
draft_flaws draft = name_flaws draft
    ++ (count_flaws draft ++ (repeat_flaws draft ++ (length_flaws draft ++ entry_flaws draft)))

-- ---- of bytes

-- all flaws of a document; those of names and counts only if each value is of its kind
unfoldable pub document_flaws : Members → List Flaw
document_flaws document =
    flaws_by OtherKeys document ++ (flaws_by MissingKeys document
    ++ (flaws_by Kinds document ++ option_map_or draft_flaws (draft_of document) []))

-- the flaws of bytes; bytes that are no TOML have one, at this place
unfoldable pub text_flaws : ℕ → List ℕ → List Flaw
text_flaws place text = option_map_or document_flaws (parse_document text)
    (not_toml (place_after 1 1 (take place text)))

-- bytes that are not UTF-8 have no flaw to tell
abbrev pub flaws_at : ℕ → List ℕ → List Flaw
flaws_at place bytes = if is_utf8 bytes then text_flaws place bytes else []

-- the texts have no control character
abbrev pub ArePlain : List Flaw → Type 0
ArePlain flaws = AllByRecursion (λ f. IsPlain f.text) flaws

-- the fault of the first flaw
abbrev pub first_fault : List Flaw → Option TableFault
first_fault [] = None
first_fault (f ∷ fs) = Some f.fault
