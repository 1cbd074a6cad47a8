-- The table of a draft with none of the faults is a type table.
use Rattle.std.proofs.Common.{◌≡◌, ℕ, suc, ◌<◌, ◌≤◌, List, [], ◌∷◌, length, map, Option, Some, None, Bool, true, false, not, ◌==◌, arith, refl, ap, ◌∙◌}
use Rattle.std.proofs.lemmas.Grind.{common_steps}
use Rattle.std.specs.List.{AllByRecursion, list_all, list_any}
use Rattle.std.proofs.lemmas.List.{length-map}
use Rattle.std.proofs.lemmas.Bool.{or_parts, and_parts, not-false}
use Rattle.cn_table.specs.Draft.{Draft, DraftRow, row_names, all_some, ◌>>=◌}
use Rattle.cn_table.specs.Names.{is_name, has_repeat, number_of, IsNameList}
use Rattle.cn_table.specs.TypeTable.{Row, IsRow, IsTypeTable}
use Rattle.cn_table.specs.Numbering.{numbers_of, row_from, rows_from}
use Rattle.cn_table.specs.declared.limits.TheConstants.{MOST_OPERATIONS, MOST_RESPONSES, MOST_STATES}
use Rattle.cn_table.specs.Faults.{is_misfit, has_bad_length, is_miscounted, has_bad_count, has_bad_name, has_repeated_name}
use Rattle.cn_table.proofs.Lists.{none_skipped}

-- the parts of a reading that gives a value
pub bind_some : {A B : Type 0} (o : Option A) (f : A → Option B) (y : B) → (o >>= f) ≡ Some y → (x : A) × (o ≡ Some x) × (f x ≡ Some y)
bind_some None f y e = cc
bind_some (Some x) f y e = (x, refl, e)

number_below : (names : List (List ℕ)) (t : List ℕ) (n : ℕ) → number_of names t ≡ Some n → n < length names
number_below names t n e = grind (arith, common_steps, e)

-- a property of each element of the list read, if each reading that is not skipped gives an element with it
each_read : {X Y : Type 0} (f : X → Option Y) (skips : X → Bool) (P : Y → Type 0) → ((x : X) (y : Y) → skips x ≡ false → f x ≡ Some y → P y)
    → (xs : List X) (ys : List Y) → list_any skips xs ≡ false → all_some (map f xs) ≡ Some ys → (length ys ≡ length xs) × AllByRecursion P ys
each_read f skips P reads [] ys none e = let empty : [] ≡ ys = cc in rw (← empty) (refl, tt)
each_read f skips P reads (x ∷ xs) ys none e =
    let (here, later) = or_parts (skips x) (list_any skips xs) none in
    let (y, first, rest) = bind_some (f x) (λ y. all_some (map f xs) >>= (λ ys. Some (y ∷ ys))) ys e in
    let (more, others, last) = bind_some (all_some (map f xs)) (λ ys. Some (y ∷ ys)) ys rest in
    let (len, all) = each_read f skips P reads xs more later others in
    let whole : y ∷ more ≡ ys = cc in
    rw (← whole) (ap suc len, (reads x y here first, all))

numbers_below : (names texts : List (List ℕ)) (ns : List ℕ) → numbers_of names texts ≡ Some ns → (length ns ≡ length texts) × AllByRecursion (λ x. x < length names) ns
numbers_below names texts ns e = each_read (number_of names) (λ _. false) (λ x. x < length names) (λ t n _ h. number_below names t n h) texts ns (none_skipped texts) e

same_length : (m n : ℕ) → not (m == n) ≡ false → m ≡ n
same_length m n e = grind (arith, common_steps, not-false (m == n) e)

-- the parts of the draft's row from which a row comes
row_parts : (states responses : List (List ℕ)) (r : DraftRow) (row : Row) → row_from states responses r ≡ Some row
    → (numbers_of responses r.response ≡ Some row.response) × (numbers_of states r.next ≡ Some row.next) × (row.name ≡ r.name)
unfolding row_from
row_parts states responses r row e =
    let (response, first, rest) = bind_some (numbers_of responses r.response) _ row e in
    let (next, second, last) = bind_some (numbers_of states r.next) _ row rest in
    let whole : (let w : Row = record { name = r.name; response = response; next = next } in w) ≡ row = cc in
    rw (← whole) (first, second, refl)

row_is : (states responses : List (List ℕ)) (r : DraftRow) (row : Row) → is_misfit (length states) r ≡ false → row_from states responses r ≡ Some row → IsRow (length states) (length responses) row
row_is states responses r row fits e =
    let (fits_response, fits_next) = or_parts (not (length r.response == length states)) (not (length r.next == length states)) fits in
    let (response, next, name) = row_parts states responses r row e in
    let (response_len, response_below) = numbers_below responses r.response row.response response in
    let (next_len, next_below) = numbers_below states r.next row.next next in
    record {
      response_len = response_len ∙ same_length _ _ fits_response;
      next_len = next_len ∙ same_length _ _ fits_next;
      response = response_below;
      next = next_below;
    }

rows_keep_names : (states responses : List (List ℕ)) (rs : List DraftRow) (rows : List Row) → rows_from states responses rs ≡ Some rows → map (λ row. row.name) rows ≡ row_names rs
rows_keep_names states responses [] rows e = let empty : [] ≡ rows = cc in rw (← empty) refl
rows_keep_names states responses (r ∷ rs) rows e =
    let (row, first, rest) = bind_some (row_from states responses r) (λ y. rows_from states responses rs >>= (λ ys. Some (y ∷ ys))) rows e in
    let (more, others, last) = bind_some (rows_from states responses rs) (λ ys. Some (row ∷ ys)) rows rest in
    let whole : row ∷ more ≡ rows = cc in
    rw (← whole, (row_parts states responses r row first).2, rows_keep_names states responses rs more others) refl

counted : {X : Type 0} (most : ℕ) (xs : List X) → is_miscounted most xs ≡ false → (1 ≤ length xs) × (length xs ≤ most)
counted most xs e = grind (arith, common_steps, not-false _ e)

name_list : (most : ℕ) (names : List (List ℕ)) → is_miscounted most names ≡ false → list_all is_name names ≡ true → has_repeat names ≡ false → IsNameList most names
name_list most names count named once = record {
  some = (counted most names count).0;
  few = (counted most names count).1;
  named = named;
  distinct = rw once refl;
}

length_of_names : (rs : List DraftRow) → length (row_names rs) ≡ length rs
length_of_names rs = length-map rs (λ r. r.name)

pub is_type_table : (d : Draft) (rows : List Row) → has_bad_name d ≡ false → has_bad_count d ≡ false → has_repeated_name d ≡ false → has_bad_length d ≡ false
    → rows_from d.states d.responses d.operations ≡ Some rows
    → IsTypeTable (record { name = d.name; states = d.states; responses = d.responses; operations = rows })
is_type_table d rows names counts repeats lengths e =
    let (own_name, names_1) = and_parts _ _ (not-false _ names) in
    let (state_names, names_2) = and_parts _ _ names_1 in
    let (response_names, names_of_rows) = and_parts _ _ names_2 in
    let (state_count, counts_1) = or_parts _ _ counts in
    let (response_count, row_count) = or_parts _ _ counts_1 in
    let (states_once, repeats_1) = or_parts _ _ repeats in
    let (responses_once, rows_once) = or_parts _ _ repeats_1 in
    let (len, all) = each_read (row_from d.states d.responses) (is_misfit (length d.states)) (IsRow (length d.states) (length d.responses)) (row_is d.states d.responses) d.operations rows lengths e in
    record {
      name = own_name;
      states = name_list MOST_STATES d.states state_count state_names states_once;
      responses = name_list MOST_RESPONSES d.responses response_count response_names responses_once;
      operations = rw (rows_keep_names d.states d.responses d.operations rows e)
          (name_list MOST_OPERATIONS (row_names d.operations) (rw (length_of_names d.operations) row_count) names_of_rows rows_once);
      rows = all;
    }
