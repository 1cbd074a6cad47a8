-- A type table with some of its states is a type table.
use Rattle.std.proofs.Common.{◌≡◌, ℕ, ◌<◌, List, [], ◌∷◌, length, map, false, not, arith, refl, sym, ap, ◌∙◌, subst, All}
use Rattle.std.specs.Prelude.{slice_index, slice_index_or}
use Rattle.std.specs.List.{AllByRecursion}
use Rattle.std.proofs.lemmas.Bool.{not-true}
use Rattle.std.proofs.lemmas.List.{length-map}
use Rattle.std.proofs.lemmas.List.Elements.{All-from_recursion, recursion_from_All}
use Rattle.cn_table.specs.FewerStates.{AreClasses, HasEntries, row_with, with_states}
use Rattle.cn_table.specs.Names.{has_repeat}
use Rattle.cn_table.specs.TypeTable.{IsRow, IsTypeTable, Row, TypeTable, operation_names}
use Rattle.cn_table.proofs.ListLemmas.{map_twice}
use Rattle.cn_table.proofs.PickedNames.{picked_distinct, picked_named}
use Rattle.cn_table.proofs.Restrictions.{ascend_from, few_operations}
use Rattle.cn_table.proofs.Rows.{all_at}

-- ---- entries

each_mapped : (P : ℕ → Type 0) (f : ℕ → ℕ) (n : ℕ) (is : List ℕ) → ((i : ℕ) → i < n → P (f i)) → AllByRecursion (λ i. i < n) is → AllByRecursion P (map f is)
each_mapped P f n [] h known = tt
each_mapped P f n (i ∷ is) h known = (h i known.0, each_mapped P f n is h known.1)

module _ (n m k : ℕ) (kept class_of : List ℕ) (known : AllByRecursion (λ q. q < n) kept) (each : length class_of ≡ n) (class : AllByRecursion (λ s. s < k) class_of) where
  row_is : (row : Row) → IsRow n m row → length kept ≡ k → IsRow k m (row_with kept class_of row)
  row_is row is long = record {
    response_len = length-map kept (λ q. slice_index row.response q) ∙ long;
    next_len = length-map kept (λ q. slice_index class_of (slice_index row.next q)) ∙ long;
    response = each_mapped (λ r. r < m) (λ q. slice_index row.response q) n kept
        (λ q l. all_at (λ r. r < m) row.response q 0 (omega (arith, l, is.response_len)) is.response) known;
    next = each_mapped (λ s. s < k) (λ q. slice_index class_of (slice_index row.next q)) n kept
        (λ q l. let there : slice_index row.next q < n = all_at (λ s. s < n) row.next q 0 (omega (arith, l, is.next_len)) is.next in
        all_at (λ s. s < k) class_of (slice_index row.next q) 0 (omega (arith, there, each)) class) known;
  }

  rows_are : (rows : List Row) → AllByRecursion (IsRow n m) rows → length kept ≡ k → AllByRecursion (IsRow k m) (map (row_with kept class_of) rows)
  rows_are [] is long = tt
  rows_are (row ∷ rows) is long = (row_is row is.0 long, rows_are rows is.1 long)

  below : (xs : List ℕ) (j : ℕ) → length xs ≡ n → All (λ q. q < length xs) kept
  below xs j e = subst (λ (i : ℕ). All (λ q. q < i) kept) (sym e) (All-from_recursion (λ q. q < n) kept known)

  entries_in : (rows : List Row) → AllByRecursion (IsRow n m) rows → AllByRecursion (HasEntries kept class_of) rows
  entries_in [] is = tt
  entries_in (row ∷ rows) is = (
    record {
      response = below row.response 0 is.0.response_len;
      next = below row.next 0 is.0.next_len;
      class = subst (λ (i : ℕ). All (λ q. q < i) row.next) (sym each) (All-from_recursion (λ q. q < n) row.next is.0.next);
    },
    entries_in rows is.1,
  )

-- ---- the table

pub has_entries : (t : TypeTable) (kept class_of : List ℕ) → IsTypeTable t → AreClasses t kept class_of → AllByRecursion (HasEntries kept class_of) t.operations
has_entries t kept class_of table are =
    entries_in (length t.states) (length t.responses) (length kept) kept class_of (recursion_from_All (λ q. q < length t.states) kept are.known) are.each
    (recursion_from_All (λ s. s < length kept) class_of are.class) t.operations table.rows

pub classes_table : (t : TypeTable) (kept class_of : List ℕ) → IsTypeTable t → AreClasses t kept class_of → IsTypeTable (with_states t kept class_of)
classes_table t kept class_of table are =
    let n : ℕ = length t.states in
    let known : AllByRecursion (λ q. q < n) kept = recursion_from_All (λ q. q < n) kept are.known in
    let class : AllByRecursion (λ s. s < length kept) class_of = recursion_from_All (λ s. s < length kept) class_of are.class in
    let up = ascend_from kept are.ascending in
    let long : length (with_states t kept class_of).states ≡ length kept = length-map kept (λ q. slice_index_or t.states q []) in
    let repeats : has_repeat t.states ≡ false = not-true (has_repeat t.states) table.states.distinct in
    let same : operation_names (with_states t kept class_of) ≡ operation_names t = map_twice (λ (row : Row). row.name) (row_with kept class_of) t.operations in
    record {
      name = table.name;
      states = record {
        some = omega (arith, long, are.some);
        few = omega (arith, long, few_operations n kept known up, table.states.few);
        named = picked_named t.states kept table.states.named known;
        distinct = ap not (picked_distinct t.states kept repeats known up);
      };
      responses = table.responses;
      operations = rw same table.operations;
      rows = subst (λ (k : ℕ). AllByRecursion (IsRow k (length t.responses)) (map (row_with kept class_of) t.operations)) (sym long)
          (rows_are n (length t.responses) (length kept) kept class_of known are.each class t.operations table.rows refl);
    }

-- ---- the table in memory

-- a table with these parts is the one with the kept states
pub made : (t : TypeTable) (kept class_of name : List ℕ) (states responses : List (List ℕ)) (operations : List Row) (read : TypeTable) → read ≡ t → name ≡ read.name
    → states ≡ map (λ q. slice_index_or read.states q []) kept → responses ≡ read.responses → operations ≡ map (row_with kept class_of) read.operations
    → (let u : TypeTable = record { name = name; states = states; responses = responses; operations = operations } in u) ≡ with_states t kept class_of
made t kept class_of name states responses operations read seen en es er eo = rw (en, es, er, eo) (ap (λ (x : TypeTable). with_states x kept class_of) seen)
