-- No text of a flaw of bytes has a control character.
use Rattle.std.proofs.Common.{◌≡◌, codes, ℕ, ◌+◌, List, [], ◌∷◌, ◌++◌, length, take, drop, Option, Some, None, Bool, true, false, cond, ◌≤◌, Vec, Global, Result, Ok, Err, IfOk, refl, sym, subst}
use Rattle.std.specs.Prelude.{flat_map, nat_le, ◌==◌, is_some, unwrap_or}
use Rattle.std.specs.List.{AllByRecursion, list_any}
use Rattle.std.specs.Option.{option_map_or}
use Rattle.std.specs.Str.{bytes_eq, is_utf8}
use Rattle.toml.specs.Data.{Data, Members, get_member, as_table}
use Rattle.toml.specs.Parse.{parse_document}
use Rattle.cn_table.specs.Document.{keys_in, array_at}
use Rattle.cn_table.specs.Draft.{Draft, DraftRow, row_names, draft_of, text_at}
use Rattle.cn_table.specs.Faults.{root_keys, operation_keys}
use Rattle.cn_table.specs.Names.{is_name, number_of}
use Rattle.cn_table.specs.declared.fault.TableFault.{TableFault}
use Rattle.cn_table.specs.declared.fault.TableFault.TheVariants.{UnknownKey, MissingKey, WrongKind, BadName, Count, RowLength, UnknownName}
use Rattle.cn_table.specs.declared.limits.TheConstants.{LONGEST_NAME, MOST_OPERATIONS, MOST_RESPONSES, MOST_STATES}
use Rattle.cn_flaws.specs.FlawPath.{PathPart, table_path, key_path, list_path, name_path}
use Rattle.cn_flaws.specs.FlawText.{IsPlain, place_after, operation_text, too_many_text, too_few_text, bad_name_text}
use Rattle.cn_flaws.specs.Flaws.{ArePlain, Flaw, flaw, not_toml, each, list_word, other_keys, missing_keys, wrong_kind, is_of, kind_name, table_text, table_flaws, no_table_flaws, item_flaws, operation_flaws, root_flaws, flaws_by, bad_name, bad_names, name_flaws, bad_count, count_flaws, places_of, stands_in, repeated, repeat_at, repeats, repeat_flaws, bad_length, row_lengths, length_flaws, unknown_entry, row_entries, entry_flaws, draft_flaws, document_flaws, text_flaws, flaws_at, flaws_view}
use Rattle.cn_flaws.specs.declared.flaw.Flaw as code_flaw
use Rattle.cn_flaws.specs.declared.path.Holder.{Holder}
use Rattle.cn_flaws.specs.declared.path.Holder.TheVariants.{Root, Operation}
use Rattle.cn_flaws.specs.declared.path.NameList.{NameList}
use Rattle.cn_flaws.specs.declared.path.NameList.TheVariants.{States, Responses, Operations}
use Rattle.cn_flaws.specs.declared.document_flaws.Kind.{Kind}
use Rattle.cn_flaws.specs.declared.document_flaws.Kind.TheVariants.{Text, Texts, Tables}
use Rattle.cn_flaws.specs.declared.document_flaws.FlawClass.{FlawClass}
use Rattle.cn_flaws.specs.declared.document_flaws.FlawClass.TheVariants.{OtherKeys, MissingKeys, Kinds}
use Rattle.cn_flaws.proofs.PlainTexts.{empty, both, printed, number, quoted, operation_plain, places_plain, both_plain, entries_plain, states_plain, brackets_plain}

-- ---- lists of flaws

plain_append : (xs ys : List Flaw) → ArePlain xs → ArePlain ys → ArePlain (xs ++ ys)
plain_append [] ys a b = b
plain_append (x ∷ xs) ys a b = (a.0, plain_append xs ys a.1 b)

plain_if : (k : TableFault) (path : List PathPart) (text : List ℕ) (b : Bool) → IsPlain text → ArePlain (cond b [] (flaw k path text))
plain_if k path text true h = tt
plain_if k path text false h = (h, tt)

plain_flat : {X : Type 0} (find : X → List Flaw) → ((x : X) → ArePlain (find x)) → (xs : List X) → ArePlain (flat_map find xs)
plain_flat find h [] = tt
plain_flat find h (x ∷ xs) = plain_append (find x) (flat_map find xs) (h x) (plain_flat find h xs)

plain_each : {X : Type 0} (find : ℕ → X → List Flaw) → ((i : ℕ) (x : X) → ArePlain (find i x)) → (i : ℕ) (xs : List X) → ArePlain (each find i xs)
plain_each find h i [] = tt
plain_each find h i (x ∷ xs) = plain_append (find i x) (each find (i + 1) xs) (h i x) (plain_each find h (i + 1) xs)

-- ---- of a document

plain_other : (holder : Holder) (before after : List ℕ) (known keys : List (List ℕ)) → IsPlain before → IsPlain after → ArePlain (other_keys holder before after known keys)
plain_other holder before after known keys b a =
    plain_flat _ (λ key. plain_if UnknownKey (key_path holder key) _ (list_any (λ k. bytes_eq k key) known) (both b (both (quoted key) a))) keys

plain_missing : (holder : Holder) (place : List ℕ) (known : List (List ℕ)) (table : Members) → IsPlain place → AllByRecursion IsPlain known → ArePlain (missing_keys holder place known table)
plain_missing holder place [] table p h = tt
plain_missing holder place (key ∷ known) table p h =
    plain_append _ (missing_keys holder place known table)
    (plain_if MissingKey (table_path holder) _ (is_some (get_member key table)) (both p (both (printed (codes " has no \"") refl) (both h.0 (printed (codes "\"") refl)))))
    (plain_missing holder place known table p h.1)

kind_plain : (kind : Kind) → IsPlain (kind_name kind)
kind_plain Text = printed (codes "a text") refl
kind_plain Texts = printed (codes "an array of texts") refl
kind_plain Tables = printed (codes "an array of tables") refl

plain_kind : (kind : Kind) (holder : Holder) (before key : List ℕ) (table : Members) → IsPlain before → IsPlain key → ArePlain (wrong_kind kind holder before key table)
plain_kind kind holder before key table b k =
    plain_if WrongKind (key_path holder key) _ (option_map_or (is_of kind) (get_member key table) true)
    (both b (both (printed (codes "\"") refl) (both k (both (printed (codes "\": not ") refl) (kind_plain kind)))))

abbrev name_is : IsPlain (codes "name")
name_is = printed (codes "name") refl

abbrev response_is : IsPlain (codes "response")
response_is = printed (codes "response") refl

abbrev next_is : IsPlain (codes "next")
next_is = printed (codes "next") refl

abbrev states_is : IsPlain (codes "states")
states_is = printed (codes "states") refl

abbrev responses_is : IsPlain (codes "responses")
responses_is = printed (codes "responses") refl

abbrev operation_is : IsPlain (codes "operation")
operation_is = printed (codes "operation") refl

table_plain : (i : ℕ) (table : Members) → IsPlain (table_text i table)
table_plain i table = operation_plain i (unwrap_or (text_at (codes "name") table) [])

plain_table : (flaw_class : FlawClass) (i : ℕ) (table : Members) → ArePlain (table_flaws flaw_class i table)
plain_table OtherKeys i table =
    plain_other (Operation i) _ _ operation_keys (keys_in table) (both (table_plain i table) (printed (codes ", ") refl)) (printed (codes ": an operation has name, response, next") refl)
plain_table MissingKeys i table = plain_missing (Operation i) _ operation_keys table (table_plain i table) (name_is, (response_is, (next_is, tt)))
plain_table Kinds i table =
    let before = both (table_plain i table) (printed (codes ", ") refl) in
    plain_append _ _ (plain_kind Text (Operation i) _ (codes "name") table before name_is)
    (plain_append _ _ (plain_kind Texts (Operation i) _ (codes "response") table before response_is) (plain_kind Texts (Operation i) _ (codes "next") table before next_is))

plain_no_table : (flaw_class : FlawClass) (i : ℕ) → ArePlain (no_table_flaws flaw_class i)
plain_no_table OtherKeys i = tt
plain_no_table MissingKeys i = tt
plain_no_table Kinds i = (both (printed (codes "operation[") refl) (both (number i) (printed (codes "]: not a table") refl)), tt)

plain_item : (flaw_class : FlawClass) (i : ℕ) (d : Data) → ArePlain (item_flaws flaw_class i d)
plain_item flaw_class i d = of_table (as_table d) where
  of_table : (o : Option Members) → ArePlain (option_map_or (table_flaws flaw_class i) o (no_table_flaws flaw_class i))
  of_table None = plain_no_table flaw_class i
  of_table (Some table) = plain_table flaw_class i table

plain_operations : (flaw_class : FlawClass) (document : Members) → ArePlain (operation_flaws flaw_class document)
plain_operations flaw_class document = of_items (array_at (codes "operation") document) where
  of_items : (o : Option (List Data)) → ArePlain (option_map_or (each (item_flaws flaw_class) 0) o [])
  of_items None = tt
  of_items (Some items) = plain_each (item_flaws flaw_class) (plain_item flaw_class) 0 items

plain_root : (flaw_class : FlawClass) (document : Members) → ArePlain (root_flaws flaw_class document)
plain_root OtherKeys document =
    plain_other Root [] _ root_keys (keys_in document) empty (printed (codes ": the root has name, states, responses, operation") refl)
plain_root MissingKeys document =
    plain_missing Root (codes "the root") root_keys document (printed (codes "the root") refl) (name_is, (states_is, (responses_is, (operation_is, tt))))
plain_root Kinds document =
    plain_append _ _ (plain_kind Text Root [] (codes "name") document empty name_is)
    (plain_append _ _ (plain_kind Texts Root [] (codes "states") document empty states_is)
    (plain_append _ _ (plain_kind Texts Root [] (codes "responses") document empty responses_is) (plain_kind Tables Root [] (codes "operation") document empty operation_is)))

plain_by : (flaw_class : FlawClass) (document : Members) → ArePlain (flaws_by flaw_class document)
plain_by flaw_class document =
    plain_append (root_flaws flaw_class document) (operation_flaws flaw_class document) (plain_root flaw_class document) (plain_operations flaw_class document)

-- ---- of a draft

word_plain : (list : NameList) → IsPlain (list_word list)
word_plain States = printed (codes "state") refl
word_plain Responses = response_is
word_plain Operations = operation_is

plain_name : (path : List PathPart) (what name : List ℕ) → IsPlain what → ArePlain (bad_name path what name)
plain_name path what name w =
    plain_if BadName path (bad_name_text what name) (is_name name)
    (both w (both (printed (codes " ") refl) (both (quoted name) (both (printed (codes ": 1 to ") refl) (both (number LONGEST_NAME) (printed (codes " of a-z, 0-9, _") refl))))))

plain_names : (list : NameList) (names : List (List ℕ)) → ArePlain (bad_names list names)
plain_names list names = plain_each (λ i. bad_name (name_path list i) (list_word list)) (λ i name. plain_name (name_path list i) (list_word list) name (word_plain list)) 0 names

names_plain : (draft : Draft) → ArePlain (name_flaws draft)
unfolding name_flaws
names_plain draft =
    plain_append _ _ (plain_name (key_path Root (codes "name")) (codes "name") draft.name name_is)
    (plain_append _ _ (plain_names States draft.states) (plain_append _ _ (plain_names Responses draft.responses) (plain_names Operations (row_names draft.operations))))

plain_count : (list : NameList) (most count : ℕ) → ArePlain (bad_count list most count)
plain_count list most count = of_tests (nat_le 1 count) (nat_le count most) where
  of_tests : (a b : Bool) → ArePlain (cond a (cond b [] (flaw Count (list_path list) (too_many_text (list_word list) most count))) (flaw Count (list_path list) (too_few_text (list_word list))))
  of_tests true true = tt
  of_tests true false = (both (number count) (both (printed (codes " ") refl) (both (word_plain list) (both (printed (codes "s; at most ") refl) (number most)))), tt)
  of_tests false b = (both (printed (codes "0 ") refl) (both (word_plain list) (printed (codes "s; at least 1") refl)), tt)

counts_plain : (draft : Draft) → ArePlain (count_flaws draft)
unfolding count_flaws
counts_plain draft =
    plain_append _ _ (plain_count States MOST_STATES (length draft.states))
    (plain_append _ _ (plain_count Responses MOST_RESPONSES (length draft.responses)) (plain_count Operations MOST_OPERATIONS (length draft.operations)))

plain_repeated : (list : NameList) (names : List (List ℕ)) (i : ℕ) (name : List ℕ) → ArePlain (repeated list names i name)
plain_repeated list names i name =
    let places = places_of name 0 names in
    (both (places_plain (list_word list) places (word_plain list)) (both (printed (codes " are ") refl) (both (both_plain (length places)) (both (printed (codes " called ") refl) (quoted name)))), tt)

plain_repeat : (list : NameList) (names : List (List ℕ)) (i : ℕ) (name : List ℕ) → ArePlain (repeat_at list names i name)
plain_repeat list names i name = of_tests (stands_in (take i names) name) (stands_in (drop (i + 1) names) name) where
  of_tests : (a b : Bool) → ArePlain (cond a [] (cond b (repeated list names i name) []))
  of_tests true b = tt
  of_tests false true = plain_repeated list names i name
  of_tests false false = tt

plain_repeats : (list : NameList) (names : List (List ℕ)) → ArePlain (repeats list names)
plain_repeats list names = plain_each (repeat_at list names) (plain_repeat list names) 0 names

repeats_plain : (draft : Draft) → ArePlain (repeat_flaws draft)
unfolding repeat_flaws
repeats_plain draft =
    plain_append _ _ (plain_repeats States draft.states) (plain_append _ _ (plain_repeats Responses draft.responses) (plain_repeats Operations (row_names draft.operations)))

plain_length : (i : ℕ) (operation row : List ℕ) (count states : ℕ) → IsPlain operation → IsPlain row → ArePlain (bad_length i operation row count states)
plain_length i operation row count states o r =
    plain_if RowLength (key_path (Operation i) row) _ (count == states)
    (both o (both (printed (codes ": ") refl) (both r (both (printed (codes " has ") refl) (both (entries_plain count) (both (printed (codes ", ") refl) (states_plain states)))))))

lengths_plain : (draft : Draft) → ArePlain (length_flaws draft)
unfolding length_flaws
lengths_plain draft = plain_each (row_lengths (length draft.states)) of_row 0 draft.operations where
  of_row : (i : ℕ) (row : DraftRow) → ArePlain (row_lengths (length draft.states) i row)
  of_row i row =
      plain_append _ _ (plain_length i (operation_text i row.name) (codes "response") (length row.response) (length draft.states) (operation_plain i row.name) response_is)
      (plain_length i (operation_text i row.name) (codes "next") (length row.next) (length draft.states) (operation_plain i row.name) next_is)

plain_entries : (i : ℕ) (operation row what : List ℕ) (names texts : List (List ℕ)) → IsPlain operation → IsPlain row → IsPlain what
    → ArePlain (each (unknown_entry i operation row what names) 0 texts)
plain_entries i operation row what names texts o r w =
    plain_each (unknown_entry i operation row what names) (λ k text. plain_if UnknownName _ _ (is_some (number_of names text))
    (both o (both (printed (codes ", ") refl)
    (both r (both (printed (codes "[") refl)
    (both (number k) (both (printed (codes "]: ") refl) (both (quoted text) (both (printed (codes " is no ") refl) (both w (brackets_plain names))))))))))) 0 texts

entries_are_plain : (draft : Draft) → ArePlain (entry_flaws draft)
unfolding entry_flaws
entries_are_plain draft = plain_each (row_entries draft.states draft.responses) of_row 0 draft.operations where
  of_row : (i : ℕ) (row : DraftRow) → ArePlain (row_entries draft.states draft.responses i row)
  of_row i row =
      plain_append _ _ (plain_entries i (operation_text i row.name) (codes "response") (codes "response") draft.responses row.response (operation_plain i row.name) response_is response_is)
      (plain_entries i (operation_text i row.name) (codes "next") (codes "state") draft.states row.next (operation_plain i row.name) next_is (printed (codes "state") refl))

draft_plain : (draft : Draft) → ArePlain (draft_flaws draft)
unfolding draft_flaws
draft_plain d =
    plain_append (name_flaws d) _ (names_plain d) (plain_append (count_flaws d) _ (counts_plain d)
    (plain_append (repeat_flaws d) _ (repeats_plain d) (plain_append (length_flaws d) (entry_flaws d) (lengths_plain d) (entries_are_plain d))))

-- ---- all of them

document_plain : (document : Members) → ArePlain (document_flaws document)
unfolding document_flaws
document_plain document =
    plain_append (flaws_by OtherKeys document) _ (plain_by OtherKeys document) (plain_append (flaws_by MissingKeys document) _ (plain_by MissingKeys document)
    (plain_append (flaws_by Kinds document) _ (plain_by Kinds document) (of_draft (draft_of document))))
  where
    of_draft : (o : Option Draft) → ArePlain (option_map_or draft_flaws o [])
    of_draft None = tt
    of_draft (Some draft) = draft_plain draft

text_plain : (place : ℕ) (text : List ℕ) → ArePlain (text_flaws place text)
unfolding text_flaws
text_plain place text = of_document (parse_document text) where
  of_document : (o : Option Members) → ArePlain (option_map_or document_flaws o (not_toml (place_after 1 1 (take place text))))
  of_document None =
      let position = place_after 1 1 (take place text) in
      (both (printed (codes "line ") refl) (both (number position.line) (both (printed (codes ", column ") refl) (both (number position.column) (printed (codes ": not TOML") refl)))), tt)
  of_document (Some document) = document_plain document

plain_at : (place : ℕ) (bytes : List ℕ) → ArePlain (flaws_at place bytes)
plain_at place bytes = of_test (is_utf8 bytes) where
  of_test : (b : Bool) → ArePlain (cond b (text_flaws place bytes) [])
  of_test true = text_plain place bytes
  of_test false = tt

-- the same for flaws in memory
pub plain_in_memory : {E : Type 0} (r : Result (Vec code_flaw.Flaw Global) E) (bytes : List ℕ)
    → IfOk r (λ v. (p : ℕ) × (p ≤ length bytes) × (flaws_view v ≡ flaws_at p bytes)) → IfOk r (λ v. ArePlain (flaws_view v))
plain_in_memory (Ok v) bytes found = subst ArePlain (sym found.2) (plain_at found.0 bytes)
plain_in_memory (Err e) bytes found = tt
