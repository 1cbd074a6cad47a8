-- The first flaw of bytes is of their first fault.
use Rattle.std.proofs.Common.{◌≡◌, codes, ℕ, ◌+◌, List, [], ◌∷◌, ◌++◌, length, take, Option, Some, None, Bool, true, false, ◌&&◌, ◌||◌, not, cond, is_none, is_some, ◌≤◌, Vec, Global, Result, Ok, Err, IfOk, append_assoc, refl, ap, sym, true≢false, ◌∙◌}
use Rattle.std.specs.Prelude.{flat_map, nat_le, ◌==◌, option_map, option_and_then}
use Rattle.std.specs.Prelude.{IsUtf8}
use Rattle.std.proofs.lemmas.Bool.{or_parts}
use Rattle.std.proofs.Math.Seq.{drop-append-add, take-append_seam}
use Rattle.std.proofs.lemmas.List.{length_push}
use Rattle.std.proofs.lemmas.List.Folds.{list_any-append}
use Rattle.std.proofs.lemmas.Slice.Eq.{bytes_eq-Decides}
use Rattle.std.proofs.lemmas.Str.{is_utf8-from_IsUtf8}
use Rattle.std.specs.List.{list_all, list_any}
use Rattle.std.specs.Option.{option_map_or, option_or}
use Rattle.std.specs.Str.{bytes_eq, is_utf8}
use Rattle.toml.specs.Data.{Data, Items, Members, get_member, as_array, as_table}
use Rattle.toml.specs.Parse.{parse_document}
use Rattle.cn_table.specs.Document.{list_of, keys_in, array_at}
use Rattle.cn_table.specs.Draft.{Draft, DraftRow, row_names, draft_of}
use Rattle.cn_table.specs.Faults.{root_keys, operation_keys, has_other_key, lacks_a_key, some_table, some_operation, has_unknown_key, has_missing_key, is_at, is_text, is_array_of, is_operation, has_wrong_kind, has_bad_name, is_miscounted, has_bad_count, has_repeated_name, is_misfit, has_bad_length, are_among, has_unknown_name, fault_of}
use Rattle.cn_table.specs.Names.{is_name, has_repeat, number_of}
use Rattle.cn_flaws.specs.FlawPath.{PathPart, table_path, key_path, list_path, name_path}
use Rattle.cn_flaws.specs.FlawText.{kind_text, too_many_text, too_few_text, operation_text, no_operation_text, place_after}
use Rattle.cn_flaws.specs.Flaws.{Flaw, flaw, not_toml, each, list_word, bad_names, repeated, repeat_at, stands_in, other_keys, missing_keys, wrong_kind, is_array, is_of, kind_name, table_flaws, item_flaws, operation_flaws, root_flaws, flaws_by, bad_name, name_flaws, bad_count, count_flaws, repeats, repeat_flaws, row_lengths, length_flaws, unknown_entry, row_entries, entry_flaws, draft_flaws, document_flaws, text_flaws, flaws_at, flaws_view, first_fault}
use Rattle.cn_table.specs.declared.fault.TableFault.{TableFault}
use Rattle.cn_table.specs.declared.fault.TableFault.TheVariants.{NotToml, UnknownKey, MissingKey, WrongKind, BadName, Count, Repeated, RowLength, UnknownName}
use Rattle.cn_flaws.specs.declared.flaw.Flaw as code_flaw
use Rattle.cn_flaws.specs.declared.path.Holder.{Holder}
use Rattle.cn_flaws.specs.declared.path.Holder.TheVariants.{Root, Operation}
use Rattle.cn_flaws.specs.declared.path.NameList.{NameList}
use Rattle.cn_flaws.specs.declared.path.NameList.TheVariants.{States, Responses, Operations}
use Rattle.cn_flaws.specs.declared.document_flaws.Kind.{Kind}
use Rattle.cn_flaws.specs.declared.document_flaws.Kind.TheVariants.{Text, Texts, Tables}
use Rattle.cn_flaws.specs.declared.document_flaws.FlawClass.TheVariants.{OtherKeys, MissingKeys, Kinds}
use Rattle.cn_table.specs.declared.limits.TheConstants.{MOST_OPERATIONS, MOST_RESPONSES, MOST_STATES}
use Rattle.cn_table.proofs.Lists.{none_skipped}

-- ---- which fault comes first

-- this fault, if the test holds
abbrev told : TableFault → Bool → Option TableFault
told k b = cond b (Some k) None

first_append : (xs ys : List Flaw) → first_fault (xs ++ ys) ≡ option_or (first_fault xs) (first_fault ys)
first_append [] ys = refl
first_append (x ∷ xs) ys = refl

told_or : (k : TableFault) (b c : Bool) → option_or (told k b) (told k c) ≡ told k (b || c)
told_or k true c = refl
told_or k false c = refl

-- a part and the rest, both of one fault
pub told_append : (k : TableFault) (xs ys : List Flaw) (b c : Bool) → first_fault xs ≡ told k b → first_fault ys ≡ told k c → first_fault (xs ++ ys) ≡ told k (b || c)
told_append k xs ys b c here later = first_append xs ys ∙ rw (here, later) (told_or k b c)

told_if : (k : TableFault) (path : List PathPart) (text : List ℕ) (b : Bool) → first_fault (cond b [] (flaw k path text)) ≡ told k (not b)
told_if k path text true = refl
told_if k path text false = refl

-- the flaws of each thing of a list are of one fault
told_flat : {X : Type 0} (k : TableFault) (flaw_class : X → List Flaw) (test : X → Bool) → ((x : X) → first_fault (flaw_class x) ≡ told k (test x)) → (xs : List X)
    → first_fault (flat_map flaw_class xs) ≡ told k (list_any test xs)
told_flat k flaw_class test same [] = refl
told_flat k flaw_class test same (x ∷ xs) = told_append k (flaw_class x) (flat_map flaw_class xs) (test x) (list_any test xs) (same x) (told_flat k flaw_class test same xs)

told_each : {X : Type 0} (k : TableFault) (flaw_class : ℕ → X → List Flaw) (test skips : X → Bool)
    → ((i : ℕ) (x : X) → skips x ≡ false → first_fault (flaw_class i x) ≡ told k (test x)) → (i : ℕ) (xs : List X) → list_any skips xs ≡ false
    → first_fault (each flaw_class i xs) ≡ told k (list_any test xs)
told_each k flaw_class test skips same i [] none = refl
told_each k flaw_class test skips same i (x ∷ xs) none =
    let (here, later) = or_parts (skips x) (list_any skips xs) none in
    told_append k (flaw_class i x) (each flaw_class (i + 1) xs) (test x) (list_any test xs) (same i x here) (told_each k flaw_class test skips same (i + 1) xs later)

told_each_all : {X : Type 0} (k : TableFault) (flaw_class : ℕ → X → List Flaw) (test : X → Bool)
    → ((i : ℕ) (x : X) → first_fault (flaw_class i x) ≡ told k (test x)) → (i : ℕ) (xs : List X) → first_fault (each flaw_class i xs) ≡ told k (list_any test xs)
told_each_all k flaw_class test same i xs = told_each k flaw_class test (λ _. false) (λ i x _. same i x) i xs (none_skipped xs)

-- ---- tests

not_and : (a b : Bool) → (not a || not b) ≡ not (a && b)
not_and true b = refl
not_and false b = refl

any_not : {X : Type 0} (test : X → Bool) (xs : List X) → list_any (λ x. not (test x)) xs ≡ not (list_all test xs)
any_not test [] = refl
any_not test (x ∷ xs) = rw (any_not test xs) (not_and (test x) (list_all test xs))

told_not : (k : TableFault) (xs ys : List Flaw) (a b : Bool) → first_fault xs ≡ told k (not a) → first_fault ys ≡ told k (not b) → first_fault (xs ++ ys) ≡ told k (not (a && b))
told_not k xs ys a b here later = told_append k xs ys (not a) (not b) here later ∙ ap (told k) (not_and a b)

-- ---- keys

told_other : (holder : Holder) (before after : List ℕ) (known : List (List ℕ)) (table : Members)
    → first_fault (other_keys holder before after known (keys_in table)) ≡ told UnknownKey (has_other_key known table)
told_other holder before after known table =
    told_flat UnknownKey _ (λ key. not (list_any (λ k. bytes_eq k key) known)) (λ key. told_if UnknownKey _ _ (list_any (λ k. bytes_eq k key) known)) (keys_in table)

told_missing : (holder : Holder) (place : List ℕ) (known : List (List ℕ)) (table : Members) → first_fault (missing_keys holder place known table) ≡ told MissingKey (lacks_a_key known table)
told_missing holder place known table =
    told_flat MissingKey _ (λ key. not (is_some (get_member key table))) (λ key. told_if MissingKey _ _ (is_some (get_member key table))) known

other_in_item : (i : ℕ) (d : Data) → first_fault (item_flaws OtherKeys i d) ≡ told UnknownKey (option_map_or (has_other_key operation_keys) (as_table d) false)
other_in_item i d = of_table (as_table d) where
  of_table : (o : Option Members) → first_fault (option_map_or (table_flaws OtherKeys i) o []) ≡ told UnknownKey (option_map_or (has_other_key operation_keys) o false)
  of_table None = refl
  of_table (Some table) = told_other (Operation i) _ _ operation_keys table

missing_in_item : (i : ℕ) (d : Data) → first_fault (item_flaws MissingKeys i d) ≡ told MissingKey (option_map_or (lacks_a_key operation_keys) (as_table d) false)
missing_in_item i d = of_table (as_table d) where
  of_table : (o : Option Members) → first_fault (option_map_or (table_flaws MissingKeys i) o []) ≡ told MissingKey (option_map_or (lacks_a_key operation_keys) o false)
  of_table None = refl
  of_table (Some table) = told_missing (Operation i) _ operation_keys table

other_in_operations : (document : Members) → first_fault (operation_flaws OtherKeys document) ≡ told UnknownKey (some_operation (has_other_key operation_keys) document)
other_in_operations document = of_items (array_at (codes "operation") document) where
  of_items : (o : Option (List Data)) → first_fault (option_map_or (each (item_flaws OtherKeys) 0) o [])
      ≡ told UnknownKey (option_map_or (some_table (has_other_key operation_keys)) o false)
  of_items None = refl
  of_items (Some items) = told_each_all UnknownKey (item_flaws OtherKeys) _ other_in_item 0 items

missing_in_operations : (document : Members) → first_fault (operation_flaws MissingKeys document) ≡ told MissingKey (some_operation (lacks_a_key operation_keys) document)
missing_in_operations document = of_items (array_at (codes "operation") document) where
  of_items : (o : Option (List Data)) → first_fault (option_map_or (each (item_flaws MissingKeys) 0) o [])
      ≡ told MissingKey (option_map_or (some_table (lacks_a_key operation_keys)) o false)
  of_items None = refl
  of_items (Some items) = told_each_all MissingKey (item_flaws MissingKeys) _ missing_in_item 0 items

unknown_keys_first : (document : Members) → first_fault (flaws_by OtherKeys document) ≡ told UnknownKey (has_unknown_key document)
unknown_keys_first document =
    told_append UnknownKey (root_flaws OtherKeys document) (operation_flaws OtherKeys document) (has_other_key root_keys document) (some_operation (has_other_key operation_keys) document)
    (told_other Root [] (codes ": the root has name, states, responses, operation") root_keys document) (other_in_operations document)

missing_keys_first : (document : Members) → first_fault (flaws_by MissingKeys document) ≡ told MissingKey (has_missing_key document)
missing_keys_first document =
    told_append MissingKey (root_flaws MissingKeys document) (operation_flaws MissingKeys document) (lacks_a_key root_keys document) (some_operation (lacks_a_key operation_keys) document)
    (told_missing Root (codes "the root") root_keys document) (missing_in_operations document)

-- ---- kinds, where no key is missing

told_kind : (kind : Kind) (holder : Holder) (before key : List ℕ) (table : Members) → not (is_some (get_member key table)) ≡ false
    → first_fault (wrong_kind kind holder before key table) ≡ told WrongKind (not (is_at (is_of kind) key table))
told_kind kind holder before key table there = of_value (get_member key table) there where
  of_value : (o : Option Data) → not (is_some o) ≡ false
      → first_fault (cond (option_map_or (is_of kind) o true) [] (flaw WrongKind (key_path holder key) (kind_text before key (kind_name kind)))) ≡ told WrongKind
      (not (option_map_or (is_of kind) o false))
  of_value None h = absurd cc
  of_value (Some d) h = told_if WrongKind _ _ (is_of kind d)

table_kinds : (i : ℕ) (table : Members) → lacks_a_key operation_keys table ≡ false → first_fault (table_flaws Kinds i table)
    ≡ told WrongKind (not (is_at is_text (codes "name") table && (is_at (is_array_of is_text) (codes "response") table && is_at (is_array_of is_text) (codes "next") table)))
table_kinds i table none =
    let (name, others) = or_parts (not (is_some (get_member (codes "name") table))) _ none in
    let (response, last) = or_parts (not (is_some (get_member (codes "response") table))) _ others in
    let (next, _) = or_parts (not (is_some (get_member (codes "next") table))) _ last in
    told_not WrongKind _ _ (is_at is_text (codes "name") table) (is_at (is_array_of is_text) (codes "response") table && is_at (is_array_of is_text) (codes "next") table)
    (told_kind Text (Operation i) _ (codes "name") table name)
    (told_not WrongKind _ _ (is_at (is_array_of is_text) (codes "response") table) (is_at (is_array_of is_text) (codes "next") table)
    (told_kind Texts (Operation i) _ (codes "response") table response) (told_kind Texts (Operation i) _ (codes "next") table next))

kinds_in_item : (i : ℕ) (d : Data) → option_map_or (lacks_a_key operation_keys) (as_table d) false ≡ false → first_fault (item_flaws Kinds i d) ≡ told WrongKind (not (is_operation d))
kinds_in_item i d none = of_table (as_table d) none where
  of_table : (o : Option Members) → option_map_or (lacks_a_key operation_keys) o false ≡ false
      → first_fault (option_map_or (table_flaws Kinds i) o (flaw WrongKind (table_path (Operation i)) (no_operation_text i)))
      ≡ told WrongKind (not (option_map_or (λ table.
      is_at is_text (codes "name") table && (is_at (is_array_of is_text) (codes "response") table && is_at (is_array_of is_text) (codes "next") table)) o false))
  of_table None h = refl
  of_table (Some table) h = table_kinds i table h

kinds_in_operations : (document : Members) → some_operation (lacks_a_key operation_keys) document ≡ false → first_fault (operation_flaws Kinds document)
    ≡ told WrongKind (option_map_or (list_any (λ d. not (is_operation d))) (array_at (codes "operation") document) false)
kinds_in_operations document none = of_items (array_at (codes "operation") document) none where
  of_items : (o : Option (List Data)) → option_map_or (some_table (lacks_a_key operation_keys)) o false ≡ false
      → first_fault (option_map_or (each (item_flaws Kinds) 0) o []) ≡ told WrongKind (option_map_or (list_any (λ d. not (is_operation d))) o false)
  of_items None h = refl
  of_items (Some items) h =
      told_each WrongKind (item_flaws Kinds) (λ d. not (is_operation d)) (λ d. option_map_or (lacks_a_key operation_keys) (as_table d) false) kinds_in_item 0 items h

not_not : (b : Bool) → not (not b) ≡ b
not_not true = refl
not_not false = refl

-- an array of operations is an array whose items are all operations
is_array_of_operations : (document : Members) → (is_at is_array (codes "operation") document
    && not (option_map_or (list_any (λ d. not (is_operation d))) (array_at (codes "operation") document) false)) ≡ is_at (is_array_of is_operation) (codes "operation") document
is_array_of_operations document = of_value (get_member (codes "operation") document) where
  of_items : (o : Option Items) → (is_some o && not (option_map_or (list_any (λ d. not (is_operation d))) (option_map list_of o) false))
      ≡ option_map_or (λ items. list_all is_operation (list_of items)) o false
  of_items None = refl
  of_items (Some items) = rw (any_not is_operation (list_of items)) (not_not (list_all is_operation (list_of items)))

  of_value : (o : Option Data) → (option_map_or is_array o false
      && not (option_map_or (list_any (λ d. not (is_operation d))) (option_map list_of (option_and_then as_array o)) false)) ≡ option_map_or (is_array_of is_operation) o false
  of_value None = refl
  of_value (Some d) = of_items (as_array d)

not_or : (d e : Bool) → (not d || e) ≡ not (d && not e)
not_or false e = refl
not_or true true = refl
not_or true false = refl

four_kinds : (a b c d e x : Bool) → (d && not e) ≡ x → (not (a && (b && (c && d))) || e) ≡ not (a && (b && (c && x)))
four_kinds false b c d e x h = refl
four_kinds true false c d e x h = refl
four_kinds true true false d e x h = refl
four_kinds true true true d e x h = not_or d e ∙ ap not h

kinds_first : (document : Members) → has_missing_key document ≡ false → first_fault (flaws_by Kinds document) ≡ told WrongKind (has_wrong_kind document)
unfolding has_wrong_kind
kinds_first document none =
    let (in_root, in_operations) = or_parts (lacks_a_key root_keys document) (some_operation (lacks_a_key operation_keys) document) none in
    let (name, others) = or_parts (not (is_some (get_member (codes "name") document))) _ in_root in
    let (states, later) = or_parts (not (is_some (get_member (codes "states") document))) _ others in
    let (responses, last) = or_parts (not (is_some (get_member (codes "responses") document))) _ later in
    let (operation, _) = or_parts (not (is_some (get_member (codes "operation") document))) _ last in
    let a = is_at is_text (codes "name") document in
    let b = is_at (is_array_of is_text) (codes "states") document in
    let c = is_at (is_array_of is_text) (codes "responses") document in
    let d = is_at is_array (codes "operation") document in
    let e = option_map_or (list_any (λ d. not (is_operation d))) (array_at (codes "operation") document) false in
    told_append WrongKind (root_flaws Kinds document) (operation_flaws Kinds document) (not (a && (b && (c && d)))) e
    (told_not WrongKind _ _ a (b && (c && d)) (told_kind Text Root [] (codes "name") document name)
    (told_not WrongKind _ _ b (c && d) (told_kind Texts Root [] (codes "states") document states)
    (told_not WrongKind _ _ c d (told_kind Texts Root [] (codes "responses") document responses) (told_kind Tables Root [] (codes "operation") document operation))))
    (kinds_in_operations document in_operations)
    ∙ ap (told WrongKind) (four_kinds a b c d e (is_at (is_array_of is_operation) (codes "operation") document) (is_array_of_operations document))

-- ---- drafts

bad_names_told : (list : NameList) (names : List (List ℕ)) → first_fault (bad_names list names) ≡ told BadName (not (list_all is_name names))
bad_names_told list names =
    told_each_all BadName (λ i. bad_name (name_path list i) (list_word list)) (λ name. not (is_name name)) (λ i name. told_if BadName _ _ (is_name name)) 0 names
    ∙ ap (told BadName) (any_not is_name names)

names_first : (draft : Draft) → first_fault (name_flaws draft) ≡ told BadName (has_bad_name draft)
unfolding name_flaws
names_first draft =
    told_not BadName _ _ (is_name draft.name) (list_all is_name draft.states && (list_all is_name draft.responses && list_all is_name (row_names draft.operations)))
    (told_if BadName _ _ (is_name draft.name))
    (told_not BadName _ _ (list_all is_name draft.states) (list_all is_name draft.responses && list_all is_name (row_names draft.operations))
    (bad_names_told States draft.states)
    (told_not BadName _ _ (list_all is_name draft.responses) (list_all is_name (row_names draft.operations))
    (bad_names_told Responses draft.responses) (bad_names_told Operations (row_names draft.operations))))

count_told : {X : Type 0} (list : NameList) (most : ℕ) (xs : List X) → first_fault (bad_count list most (length xs)) ≡ told Count (is_miscounted most xs)
count_told list most xs = of_tests (nat_le 1 (length xs)) (nat_le (length xs) most) where
  of_tests : (a b : Bool) → first_fault
      (cond a (cond b [] (flaw Count (list_path list) (too_many_text (list_word list) most (length xs)))) (flaw Count (list_path list) (too_few_text (list_word list)))) ≡ told Count (not (a && b))
  of_tests true true = refl
  of_tests true false = refl
  of_tests false b = refl

counts_first : (draft : Draft) → first_fault (count_flaws draft) ≡ told Count (has_bad_count draft)
unfolding count_flaws
counts_first draft =
    told_append Count _ _ (is_miscounted MOST_STATES draft.states) (is_miscounted MOST_RESPONSES draft.responses || is_miscounted MOST_OPERATIONS draft.operations)
    (count_told States MOST_STATES draft.states)
    (told_append Count _ _ (is_miscounted MOST_RESPONSES draft.responses) (is_miscounted MOST_OPERATIONS draft.operations)
    (count_told Responses MOST_RESPONSES draft.responses) (count_told Operations MOST_OPERATIONS draft.operations))

stands_itself : (t : List ℕ) (ts : List (List ℕ)) → stands_in (t ∷ ts) t ≡ true
stands_itself t ts = rw ((bytes_eq-Decides t t).1 refl) refl

-- no name of `before` is one of `names`
abbrev IsNew : List (List ℕ) → List (List ℕ) → Type 0
IsNew before names = (name : List ℕ) → stands_in before name ≡ true → stands_in names name ≡ false

-- a name that stands first here and not again joins the names before
new_joined : (before : List (List ℕ)) (t : List ℕ) (ts : List (List ℕ)) → IsNew before (t ∷ ts) → stands_in ts t ≡ false → IsNew (before ++ t ∷ []) ts
new_joined before t ts new once name there = by_place (stands_in before name) refl (sym (list_any-append (λ u. bytes_eq u name) before (t ∷ [])) ∙ there)
  where
    by_place : (b : Bool) → stands_in before name ≡ b → (b || (bytes_eq t name || false)) ≡ true → stands_in ts name ≡ false
    by_place true e h = (or_parts (bytes_eq t name) (stands_in ts name) (new name e)).1
    by_place false e h = by_name (bytes_eq t name) refl h
      where
        by_name : (b : Bool) → bytes_eq t name ≡ b → (b || false) ≡ true → stands_in ts name ≡ false
        by_name true is h = ap (stands_in ts) (sym ((bytes_eq-Decides t name).0 is)) ∙ once
        by_name false is h = absurd (true≢false (sym h))

-- the repeated names from one place on, if no name before is one of them
repeats_from : (list : NameList) (names before rest : List (List ℕ)) → before ++ rest ≡ names → IsNew before rest
    → first_fault (each (repeat_at list names) (length before) rest) ≡ told Repeated (has_repeat rest)
repeats_from list names before [] split new = refl
repeats_from list names before (t ∷ ts) split new =
    ap (λ f. first_fault (f ++ each (repeat_at list names) (length before + 1) ts)) here ∙ by_test (stands_in ts t) refl (λ once.
    rw (← length_push before t) (repeats_from list names (before ++ t ∷ []) ts (append_assoc before (t ∷ []) ts ∙ split) (new_joined before t ts new once)))
  where
    first : stands_in before t ≡ false
    first = by_place (stands_in before t) refl
      where
        by_place : (b : Bool) → stands_in before t ≡ b → b ≡ false
        by_place true e = absurd (true≢false (sym (stands_itself t ts) ∙ new t e))
        by_place false e = refl

    here : repeat_at list names (length before) t ≡ cond (stands_in ts t) (repeated list names (length before) t) []
    here = rw (← split, take-append_seam before (t ∷ ts), drop-append-add before (t ∷ ts) 1, first) refl

    by_test : (b : Bool) → stands_in ts t ≡ b → (b ≡ false → first_fault (each (repeat_at list names) (length before + 1) ts) ≡ told Repeated (has_repeat ts))
        → first_fault (cond b (repeated list names (length before) t) [] ++ each (repeat_at list names) (length before + 1) ts) ≡ told Repeated (b || has_repeat ts)
    by_test true e later = refl
    by_test false e later = later refl

repeats_told : (list : NameList) (names : List (List ℕ)) → first_fault (repeats list names) ≡ told Repeated (has_repeat names)
repeats_told list names = repeats_from list names [] names refl (λ name h. absurd (true≢false (sym h)))

repeats_first : (draft : Draft) → first_fault (repeat_flaws draft) ≡ told Repeated (has_repeated_name draft)
unfolding repeat_flaws
repeats_first draft =
    told_append Repeated _ _ (has_repeat draft.states) (has_repeat draft.responses || has_repeat (row_names draft.operations)) (repeats_told States draft.states)
    (told_append Repeated _ _ (has_repeat draft.responses) (has_repeat (row_names draft.operations)) (repeats_told Responses draft.responses) (repeats_told Operations (row_names draft.operations)))

lengths_first : (draft : Draft) → first_fault (length_flaws draft) ≡ told RowLength (has_bad_length draft)
unfolding length_flaws
lengths_first draft = told_each_all RowLength (row_lengths (length draft.states)) (is_misfit (length draft.states)) of_row 0 draft.operations where
  of_row : (i : ℕ) (row : DraftRow) → first_fault (row_lengths (length draft.states) i row) ≡ told RowLength (is_misfit (length draft.states) row)
  of_row i row =
      told_append RowLength _ _ (not (length row.response == length draft.states)) (not (length row.next == length draft.states))
      (told_if RowLength _ _ (length row.response == length draft.states)) (told_if RowLength _ _ (length row.next == length draft.states))

entries_told : (i : ℕ) (operation row what : List ℕ) (names texts : List (List ℕ))
    → first_fault (each (unknown_entry i operation row what names) 0 texts) ≡ told UnknownName (not (are_among names texts))
entries_told i operation row what names texts =
    told_each_all UnknownName (unknown_entry i operation row what names) (λ text. not (is_some (number_of names text))) (λ k text. told_if UnknownName _ _ (is_some (number_of names text))) 0 texts
    ∙ ap (told UnknownName) (any_not (λ text. is_some (number_of names text)) texts)

entries_first : (draft : Draft) → first_fault (entry_flaws draft) ≡ told UnknownName (has_unknown_name draft)
unfolding entry_flaws has_unknown_name
entries_first draft =
    told_each_all UnknownName (row_entries draft.states draft.responses) (λ row. not (are_among draft.responses row.response && are_among draft.states row.next)) of_row 0 draft.operations
    ∙ ap (told UnknownName) (any_not (λ row. are_among draft.responses row.response && are_among draft.states row.next) draft.operations)
  where
    of_row : (i : ℕ) (row : DraftRow)
        → first_fault (row_entries draft.states draft.responses i row) ≡ told UnknownName (not (are_among draft.responses row.response && are_among draft.states row.next))
    of_row i row =
        told_not UnknownName _ _ (are_among draft.responses row.response) (are_among draft.states row.next)
        (entries_told i (operation_text i row.name) (codes "response") (codes "response") draft.responses row.response)
        (entries_told i (operation_text i row.name) (codes "next") (codes "state") draft.states row.next)

-- ---- all of them

-- a part of one fault, and the rest if the part is empty
next_first : (k : TableFault) (xs ys : List Flaw) (b : Bool) (o : Option TableFault) → first_fault xs ≡ told k b → (b ≡ false → first_fault ys ≡ o)
    → first_fault (xs ++ ys) ≡ cond b (Some k) o
next_first k xs ys true o here later = first_append xs ys ∙ rw here refl
next_first k xs ys false o here later = first_append xs ys ∙ rw (here, later refl) refl

abbrev draft_fault : Draft → Option TableFault
draft_fault d =
    cond (has_bad_name d) (Some BadName) (cond (has_bad_count d) (Some Count) (cond (has_repeated_name d) (Some Repeated)
    (cond (has_bad_length d) (Some RowLength) (cond (has_unknown_name d) (Some UnknownName) None))))

draft_first : (draft : Draft) → first_fault (draft_flaws draft) ≡ draft_fault draft
unfolding draft_flaws
draft_first d =
    next_first BadName (name_flaws d) _ (has_bad_name d) _ (names_first d) (λ _.
    next_first Count (count_flaws d) _ (has_bad_count d) _ (counts_first d) (λ _.
    next_first Repeated (repeat_flaws d) _ (has_repeated_name d) _ (repeats_first d) (λ _.
    next_first RowLength (length_flaws d) _ (has_bad_length d) _ (lengths_first d) (λ _. entries_first d))))

document_first : (document : Members) → first_fault (document_flaws document)
    ≡ cond (has_unknown_key document) (Some UnknownKey) (cond (has_missing_key document) (Some MissingKey)
    (cond (has_wrong_kind document) (Some WrongKind) (option_map_or draft_fault (draft_of document) None)))
unfolding document_flaws
document_first document =
    next_first UnknownKey (flaws_by OtherKeys document) _ (has_unknown_key document) _ (unknown_keys_first document) (λ _.
    next_first MissingKey (flaws_by MissingKeys document) _ (has_missing_key document) _ (missing_keys_first document) (λ complete.
    next_first WrongKind (flaws_by Kinds document) _ (has_wrong_kind document) _ (kinds_first document complete) (λ _. of_draft (draft_of document))))
  where
    of_draft : (o : Option Draft) → first_fault (option_map_or draft_flaws o []) ≡ option_map_or draft_fault o None
    of_draft None = refl
    of_draft (Some draft) = draft_first draft

-- the first fault of a document
abbrev document_fault : Option Members → Option TableFault
document_fault o =
    cond (is_none o) (Some NotToml)
    (cond (option_map_or has_unknown_key o false) (Some UnknownKey)
    (cond (option_map_or has_missing_key o false) (Some MissingKey)
    (cond (option_map_or has_wrong_kind o false) (Some WrongKind)
    (cond (option_map_or (λ document. option_map_or has_bad_name (draft_of document) false) o false) (Some BadName)
    (cond (option_map_or (λ document. option_map_or has_bad_count (draft_of document) false) o false) (Some Count)
    (cond (option_map_or (λ document. option_map_or has_repeated_name (draft_of document) false) o false) (Some Repeated)
    (cond (option_map_or (λ document. option_map_or has_bad_length (draft_of document) false) o false) (Some RowLength)
    (cond (option_map_or (λ document. option_map_or has_unknown_name (draft_of document) false) o false) (Some UnknownName) None))))))))

text_first : (place : ℕ) (text : List ℕ) → first_fault (text_flaws place text) ≡ document_fault (parse_document text)
unfolding text_flaws
text_first place text = of_document (parse_document text) where
  by_draft : (u m w : Bool) (o : Option Draft)
      → cond u (Some UnknownKey) (cond m (Some MissingKey) (cond w (Some WrongKind) (option_map_or draft_fault o None)))
      ≡ cond u (Some UnknownKey) (cond m (Some MissingKey) (cond w (Some WrongKind)
      (cond (option_map_or has_bad_name o false) (Some BadName) (cond (option_map_or has_bad_count o false) (Some Count)
      (cond (option_map_or has_repeated_name o false) (Some Repeated) (cond (option_map_or has_bad_length o false) (Some RowLength)
      (cond (option_map_or has_unknown_name o false) (Some UnknownName) None)))))))
  by_draft u m w None = refl
  by_draft u m w (Some draft) = refl

  of_document : (o : Option Members) → first_fault (option_map_or document_flaws o (not_toml (place_after 1 1 (take place text)))) ≡ document_fault o
  of_document None = refl
  of_document (Some document) = document_first document ∙ by_draft (has_unknown_key document) (has_missing_key document) (has_wrong_kind document) (draft_of document)

-- the first flaw is of the first fault, so there is a flaw exactly if there is a fault
pub first_is_fault : (place : ℕ) (bytes : List ℕ) → is_utf8 bytes ≡ true → first_fault (flaws_at place bytes) ≡ fault_of bytes
unfolding fault_of
first_is_fault place bytes valid = rw valid (text_first place bytes)

-- the same for flaws in memory
pub first_in_memory : {E : Type 0} (r : Result (Vec code_flaw.Flaw Global) E) (bytes : List ℕ)
    → IfOk r (λ v. (p : ℕ) × (p ≤ length bytes) × (flaws_view v ≡ flaws_at p bytes)) → IfOk r (λ v. IsUtf8 bytes → first_fault (flaws_view v) ≡ fault_of bytes)
first_in_memory (Ok v) bytes found = λ valid. ap first_fault found.2 ∙ first_is_fault found.0 bytes (is_utf8-from_IsUtf8 bytes valid)
first_in_memory (Err e) bytes found = tt
