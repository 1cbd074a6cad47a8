-- The nine faults that bytes can have as a table, and the result of reading the bytes.
use Rattle.std.specs.Prelude.{codes, ℕ, List, [], ◌∷◌, length, ◌==◌, Bool, false, ◌||◌, ◌&&◌, not}
use Rattle.std.specs.Prelude.{Option, Result, Err}
use Rattle.std.specs.Prelude.{is_none, is_some, nat_le, find, option_and_then}
use Rattle.std.specs.List.{list_all, list_any}
use Rattle.std.specs.Option.{option_map_or, ok_or}
use Rattle.std.specs.Str.{bytes_eq}
use Rattle.toml.specs.Data.{Data, Members, get_member, as_str, as_array, as_table}
use Rattle.cn_table.specs.Document.{document_of, list_of, keys_in, array_at}
use Rattle.cn_table.specs.Draft.{Draft, DraftRow, row_names, draft_of}
use Rattle.cn_table.specs.Names.{is_name, has_repeat, number_of}
use Rattle.cn_table.specs.Numbering.{table_from}
use Rattle.cn_table.specs.TypeTable.{TypeTable}
use Rattle.cn_table.specs.declared.fault.TableFault.{TableFault}
use Rattle.cn_table.specs.declared.limits.TheConstants.{MOST_OPERATIONS, MOST_RESPONSES}
use Rattle.cn_table.specs.declared.limits.TheConstants.{MOST_STATES}
use Rattle.cn_table.specs.declared.fault.TableFault.TheVariants.{NotToml, UnknownKey, MissingKey}
use Rattle.cn_table.specs.declared.fault.TableFault.TheVariants.{WrongKind, BadName}
use Rattle.cn_table.specs.declared.fault.TableFault.TheVariants.{Count, Repeated, RowLength}
use Rattle.cn_table.specs.declared.fault.TableFault.TheVariants.{UnknownName, OutOfMemory}

-- the keys of the root, and of an operation
abbrev pub root_keys : List (List ℕ)
root_keys = codes "name" ∷ codes "states" ∷ codes "responses" ∷ codes "operation" ∷ []

abbrev pub operation_keys : List (List ℕ)
operation_keys = codes "name" ∷ codes "response" ∷ codes "next" ∷ []

-- some key of the table is none of these
abbrev pub has_other_key : List (List ℕ) → Members → Bool
has_other_key known table =
    list_any (λ key. not (list_any (λ k. bytes_eq k key) known)) (keys_in table)

-- the table lacks one of these keys
abbrev pub lacks_a_key : List (List ℕ) → Members → Bool
lacks_a_key known table = list_any (λ key. not (is_some (get_member key table))) known

-- some table among the items passes the test
abbrev pub some_table : (Members → Bool) → List Data → Bool
some_table test items = list_any (λ d. option_map_or test (as_table d) false) items

-- `operation` is an array in which some table passes the test
abbrev pub some_operation : (Members → Bool) → Members → Bool
some_operation test document =
    option_map_or (some_table test) (array_at (codes "operation") document) false

abbrev pub has_unknown_key : Members → Bool
has_unknown_key document =
    has_other_key root_keys document || some_operation (has_other_key operation_keys) document

abbrev pub has_missing_key : Members → Bool
has_missing_key document =
    lacks_a_key root_keys document || some_operation (lacks_a_key operation_keys) document

-- the value at the key is of this kind
abbrev pub is_at : (Data → Bool) → List ℕ → Members → Bool
is_at kind key table = option_map_or kind (get_member key table) false

abbrev pub is_text : Data → Bool
is_text d = is_some (as_str d)

abbrev pub is_array_of : (Data → Bool) → Data → Bool
is_array_of kind d = option_map_or (λ items. list_all kind (list_of items)) (as_array d) false

abbrev pub is_operation : Data → Bool
is_operation d =
    option_map_or (λ table.
    is_at is_text (codes "name") table && (is_at (is_array_of is_text) (codes "response") table
    && is_at (is_array_of is_text) (codes "next") table))
    (as_table d) false

unfoldable pub has_wrong_kind : Members → Bool
has_wrong_kind document =
    not (is_at is_text (codes "name") document
    && (is_at (is_array_of is_text) (codes "states") document
    && (is_at (is_array_of is_text) (codes "responses") document
    && is_at (is_array_of is_operation) (codes "operation") document)))

abbrev pub has_bad_name : Draft → Bool
has_bad_name draft =
    not (is_name draft.name && (list_all is_name draft.states
    && (list_all is_name draft.responses && list_all is_name (row_names draft.operations))))

-- not from 1 to this many
abbrev pub is_miscounted : {X : Type 0} → ℕ → List X → Bool
is_miscounted most xs = not (nat_le 1 (length xs) && nat_le (length xs) most)

abbrev pub has_bad_count : Draft → Bool
has_bad_count draft = is_miscounted MOST_STATES draft.states || (is_miscounted MOST_RESPONSES
    draft.responses || is_miscounted MOST_OPERATIONS draft.operations)

abbrev pub has_repeated_name : Draft → Bool
has_repeated_name draft = has_repeat draft.states
    || (has_repeat draft.responses || has_repeat (row_names draft.operations))

-- the lengths of the row are not the number of states
abbrev pub is_misfit : ℕ → DraftRow → Bool
is_misfit states row = not (length row.response == states) || not (length row.next == states)

abbrev pub has_bad_length : Draft → Bool
has_bad_length draft = list_any (is_misfit (length draft.states)) draft.operations

-- each text is one of the names
abbrev pub are_among : List (List ℕ) → List (List ℕ) → Bool
are_among names texts = list_all (λ text. is_some (number_of names text)) texts

unfoldable pub has_unknown_name : Draft → Bool
has_unknown_name draft = not (list_all (λ row. are_among draft.responses row.response
    && are_among draft.states row.next) draft.operations)

-- the bytes spell a document for which this holds; a document with a draft for which this holds
abbrev pub in_document : (Members → Bool) → List ℕ → Bool
in_document test bytes = option_map_or test (document_of bytes) false

abbrev pub in_draft : (Draft → Bool) → List ℕ → Bool
in_draft test bytes = in_document (λ document. option_map_or test (draft_of document) false) bytes

-- whether the bytes have a fault
abbrev pub holds : List ℕ → TableFault → Bool
holds bytes NotToml = is_none (document_of bytes)
holds bytes UnknownKey = in_document has_unknown_key bytes
holds bytes MissingKey = in_document has_missing_key bytes
holds bytes WrongKind = in_document has_wrong_kind bytes
holds bytes BadName = in_draft has_bad_name bytes
holds bytes Count = in_draft has_bad_count bytes
holds bytes Repeated = in_draft has_repeated_name bytes
holds bytes RowLength = in_draft has_bad_length bytes
holds bytes UnknownName = in_draft has_unknown_name bytes
holds bytes OutOfMemory = false

-- in the order of their numbers
abbrev pub faults : List TableFault
faults = NotToml ∷ UnknownKey ∷ MissingKey ∷ WrongKind ∷ BadName ∷ Count ∷ Repeated
    ∷ RowLength ∷ UnknownName ∷ []

-- the first fault that the bytes have
unfoldable pub fault_of : List ℕ → Option TableFault
fault_of bytes = find (holds bytes) faults

-- the table that the bytes spell
abbrev pub table_of : List ℕ → Option TypeTable
table_of bytes =
    option_and_then (λ document. option_and_then table_from (draft_of document)) (document_of bytes)

-- the first fault that the bytes have, else the table that they spell
-- (bytes without a fault spell a table, so this `UnknownName` never comes up)
abbrev pub reading : List ℕ → Result TypeTable TableFault
reading bytes = option_map_or Err (fault_of bytes) (ok_or (table_of bytes) UnknownName)
