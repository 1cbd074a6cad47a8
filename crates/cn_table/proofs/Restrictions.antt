-- The restriction of a type table is a type table.
use Rattle.std.proofs.Common.{◌≡◌, ℕ, zero, suc, ◌+◌, ◌-◌, ◌<◌, ◌≤◌, List, [], ◌∷◌, length, map, get_or, Bool, false, not, ◌||◌, arith, refl, sym, ap, ◌∙◌, subst, All, AllPairs, IsTrue}
use Rattle.std.specs.Prelude.{Vec, slice_index_or}
use Rattle.std.specs.List.{AllByRecursion, list_all, list_any}
use Rattle.std.specs.Str.{bytes_eq}
use Rattle.std.proofs.lemmas.Bool.{and_from, and_parts, not-true, or_parts}
use Rattle.std.proofs.Math.ListN.{get_or-map}
use Rattle.std.specs.declared.alloc.Global.{Global}
use Rattle.std.proofs.lemmas.List.{length-map}
use Rattle.std.proofs.lemmas.List.Elements.{recursion_from_All}
use Rattle.cn_table.specs.Names.{has_repeat, is_name}
use Rattle.cn_table.specs.Restriction.{AreOperations, with_operations}
use Rattle.cn_table.specs.TableView.{table_view, transitions_view, transitions_views}
use Rattle.cn_table.specs.TypeTable.{IsRow, IsTypeTable, Row, TypeTable, no_row, operation_names}
use Rattle.cn_table.specs.declared.elements.Operation.{Operation}
use Rattle.cn_table.specs.declared.table.Table.TheInside.{Inside}
use Rattle.cn_table.specs.declared.table.Transitions.{Transitions}
use Rattle.cn_table.proofs.ListLemmas.{map_twice}
use Rattle.cn_table.proofs.Rows.{all_at}

-- each number is less than those behind it, by cases on the list
abbrev pub Ascend : List ℕ → Type 0
Ascend [] = Unit {0}
Ascend (x ∷ xs) = AllByRecursion (λ y. x < y) xs × Ascend xs

pub ascend_from : (xs : List ℕ) → AllPairs (λ x y. x < y) xs → Ascend xs
ascend_from [] h = tt
ascend_from (x ∷ xs) h = (
  recursion_from_All (λ y. x < y) xs (λ k d l. h 0 (suc k) d (omega arith) (omega (arith, l))),
  ascend_from xs (λ i j d l u. h (suc i) (suc j) d (omega (arith, l)) (omega (arith, u))),
)

-- there are no more of them than numbers from the least on
few : (low m : ℕ) (xs : List ℕ) → AllByRecursion (λ x. low ≤ x) xs → AllByRecursion (λ x. x < m) xs → Ascend xs → length xs ≤ m - low
few low m [] from below up = omega arith
few low m (x ∷ xs) from below up = omega (arith, from.0, below.0, few (x + 1) m xs (above xs up.0) below.1 up.1)
  where
    above : (ys : List ℕ) → AllByRecursion (λ y. x < y) ys → AllByRecursion (λ y. x + 1 ≤ y) ys
    above [] h = tt
    above (y ∷ ys) h = (omega (arith, h.0), above ys h.1)

from_zero : (xs : List ℕ) → AllByRecursion (λ x. 0 ≤ x) xs
from_zero [] = tt
from_zero (x ∷ xs) = (omega arith, from_zero xs)

pub few_operations : (m : ℕ) (xs : List ℕ) → AllByRecursion (λ x. x < m) xs → Ascend xs → length xs ≤ m
few_operations m xs below up = omega (arith, few 0 m xs (from_zero xs) below up)

abbrev pick : List Row → ℕ → Row
pick rows o = slice_index_or rows o no_row

-- ---- a property of each row, for the rows picked

picked : (P : Row → Type 0) (rows : List Row) (os : List ℕ) → AllByRecursion P rows → AllByRecursion (λ o. o < length rows) os → AllByRecursion P (map (pick rows) os)
picked P rows [] all known = tt
picked P rows (o ∷ os) all known = (all_at P rows o no_row known.0 all, picked P rows os all known.1)

abbrev names : List Row → List (List ℕ)
names rows = map (λ row. row.name) rows

each_named : (rows : List Row) → IsTrue (list_all is_name (names rows)) → AllByRecursion (λ row. IsTrue (is_name row.name)) rows
each_named [] h = tt
each_named (row ∷ rows) h = let p = and_parts (is_name row.name) (list_all is_name (names rows)) h in (p.0, each_named rows p.1)

all_named : (rows : List Row) → AllByRecursion (λ row. IsTrue (is_name row.name)) rows → IsTrue (list_all is_name (names rows))
all_named [] h = refl
all_named (row ∷ rows) h = and_from (is_name row.name) (list_all is_name (names rows)) h.0 (all_named rows h.1)

-- ---- names that differ

-- no later name is the one in this place
apart_first : (name : List ℕ) (rows : List Row) (j : ℕ) → j < length rows → list_any (λ u. bytes_eq u name) (names rows) ≡ false → bytes_eq (pick rows j).name name ≡ false
apart_first name [] j l h = absurd (omega arith)
apart_first name (row ∷ rows) zero l h = (or_parts (bytes_eq row.name name) (list_any (λ u. bytes_eq u name) (names rows)) h).0
apart_first name (row ∷ rows) (suc j) l h = apart_first name rows j (omega arith) (or_parts (bytes_eq row.name name) (list_any (λ u. bytes_eq u name) (names rows)) h).1

apart : (rows : List Row) (i j : ℕ) → has_repeat (names rows) ≡ false → i < j → j < length rows → bytes_eq (pick rows j).name (pick rows i).name ≡ false
apart [] i j h l u = absurd (omega arith)
apart (row ∷ rows) i zero h l u = absurd (omega (arith, l))
apart (row ∷ rows) zero (suc j) h l u =
    apart_first row.name rows j (omega arith) (or_parts (list_any (λ u. bytes_eq u row.name) (names rows)) (has_repeat (names rows)) h).0
apart (row ∷ rows) (suc i) (suc j) h l u =
    apart rows i j (or_parts (list_any (λ u. bytes_eq u row.name) (names rows)) (has_repeat (names rows)) h).1 (omega (arith, l)) (omega arith)

or_false : (a b : Bool) → a ≡ false → b ≡ false → (a || b) ≡ false
or_false a b e f = rw (e, f) refl

none_named : (rows : List Row) (i : ℕ) (os : List ℕ) → has_repeat (names rows) ≡ false → AllByRecursion (λ o. o < length rows) os → AllByRecursion (λ o. i < o) os
    → list_any (λ u. bytes_eq u (pick rows i).name) (names (map (pick rows) os)) ≡ false
none_named rows i [] h known above = refl
none_named rows i (o ∷ os) h known above = or_false _ _ (apart rows i o h above.0 known.0) (none_named rows i os h known.1 above.1)

no_repeat : (rows : List Row) (os : List ℕ) → has_repeat (names rows) ≡ false → AllByRecursion (λ o. o < length rows) os → Ascend os → has_repeat (names (map (pick rows) os)) ≡ false
no_repeat rows [] h known up = refl
no_repeat rows (o ∷ os) h known up = or_false _ _ (none_named rows o os h known.1 up.0) (no_repeat rows os h known.1 up.1)

pub restricted : (t : TypeTable) (operations : List ℕ) → IsTypeTable t → AreOperations t operations → IsTypeTable (with_operations t operations)
restricted t os table are =
    let known : AllByRecursion (λ o. o < length t.operations) os = recursion_from_All (λ o. o < length t.operations) os are.known in
    let up = ascend_from os are.ascending in
    let long : length (operation_names (with_operations t os)) ≡ length os =
    length-map (map (pick t.operations) os) (λ (row : Row). row.name) ∙ length-map os (pick t.operations) in
    let all : length (operation_names t) ≡ length t.operations = length-map t.operations (λ (row : Row). row.name) in
    let repeats : has_repeat (operation_names t) ≡ false = not-true (has_repeat (operation_names t)) table.operations.distinct in
    record {
      name = table.name;
      states = table.states;
      responses = table.responses;
      operations = record {
        some = omega (arith, long, are.some);
        few = omega (arith, long, few_operations (length t.operations) os known up, all, table.operations.few);
        named = all_named (map (pick t.operations) os) (picked (λ row. IsTrue (is_name row.name)) t.operations os (each_named t.operations table.operations.named) known);
        distinct = ap not (no_repeat t.operations os repeats known up);
      };
      rows = picked (IsRow (length t.states) (length t.responses)) t.operations os table.rows known;
    }

-- ---- the table in memory

-- the operations are those of the rows that are read
pub rows_known : (inside : Inside) (t : TypeTable) (rows : List Transitions) (os : List Operation) → table_view inside ≡ t → rows ≡ inside.operations.items
    → All (λ o. o < length t.operations) (map (λ o. o.0) os) → All (λ o. o.0 < length rows) os
rows_known inside t rows os seen same known = λ k d l.
    let number : Operation → ℕ = λ o. o.0 in
    let long : length t.operations ≡ length rows =
    ap (λ (x : TypeTable). length x.operations) (sym seen) ∙ (length-map inside.operations.items transitions_view ∙ ap length (sym same)) in
    let here : get_or (map (λ (o : Operation). o.0) os) k d.0 < length t.operations = known k d.0 (omega (arith, l, length-map os number)) in
    subst (λ (n : ℕ). (get_or os k d).0 < n) long (subst (λ (n : ℕ). n < length t.operations) (get_or-map number os k d) here)

-- a copy with these rows is the restriction
pub view_restricted : (inside own : Inside) (t : TypeTable) (rows : Vec Transitions Global) (read : List Transitions) (os : List Operation)
    → table_view inside ≡ t → table_view own ≡ t → read ≡ own.operations.items
    → transitions_views rows ≡ map (λ o. slice_index_or (map transitions_view read) o.0 no_row) os
    → table_view (record inside { operations = rows }) ≡ with_operations t (map (λ o. o.0) os)
view_restricted inside own t rows read os seen seen_own same e =
    let target : List Row = map (pick t.operations) (map (λ (o : Operation). o.0) os) in
    let are : transitions_views rows ≡ target =
    e ∙ (ap (λ (rs : List Row). map (λ (o : Operation). slice_index_or rs o.0 no_row) os)
    (ap (map transitions_view) same ∙ ap (λ (x : TypeTable). x.operations) seen_own)
    ∙ sym (map_twice (pick t.operations) (λ (o : Operation). o.0) os)) in
    ap (λ (rs : List Row). let x : TypeTable = record (table_view inside) { operations = rs } in x) are
    ∙ ap (λ (x : TypeTable). let y : TypeTable = record x { operations = target } in y) seen
