-- A type table in which one entry is another is a type table.
use Rattle.std.proofs.Common.{◌≡◌, ◌≢◌, ℕ, zero, suc, ◌<◌, List, [], ◌∷◌, length, map, get_or, set, arith, refl, sym, ap, ◌∙◌, subst, length-set}
use Rattle.std.proofs.Math.Seq.{map-set_same}
use Rattle.std.proofs.lemmas.List.{get_or-set_other, get_or-set_same, map-set}
use Rattle.std.specs.List.{AllByRecursion}
use Rattle.cn_table.specs.OtherEntry.{IsEntry, row_with_entry, with_entry}
use Rattle.cn_table.specs.TableView.{transitions_view}
use Rattle.cn_table.specs.TypeTable.{IsRow, IsTypeTable, Row, TypeTable, no_row, operation_names, transition}
use Rattle.cn_table.specs.declared.table.Transitions.{Transitions}
use Rattle.cn_table.proofs.Rows.{all_at}

all_set : {X : Type 0} (P : X → Type 0) (xs : List X) (i : ℕ) (y : X) → P y → AllByRecursion P xs → AllByRecursion P (set xs i y)
all_set P [] i y h all = tt
all_set P (x ∷ xs) zero y h all = (h, all.1)
all_set P (x ∷ xs) (suc i) y h all = (all.0, all_set P xs i y h all.1)

row_is : (n m state response next : ℕ) (row : Row) → response < m → next < n → IsRow n m row → IsRow n m (row_with_entry state response next row)
row_is n m state response next row r q is = record {
  response_len = length-set row.response state response ∙ is.response_len;
  next_len = length-set row.next state next ∙ is.next_len;
  response = all_set (λ x. x < m) row.response state response r is.response;
  next = all_set (λ x. x < n) row.next state next q is.next;
}

pub entry_table : (t : TypeTable) (operation state response next : ℕ) → IsTypeTable t → IsEntry t operation state response next → IsTypeTable (with_entry t operation state response next)
entry_table t o s r q table entry =
    let old : Row = get_or t.operations o no_row in
    let own : Row = row_with_entry s r q old in
    let same : operation_names (with_entry t o s r q) ≡ operation_names t = map-set_same (λ (row : Row). row.name) t.operations o own no_row refl in
    let P : Row → Type 0 = IsRow (length t.states) (length t.responses) in
    record {
      name = table.name;
      states = table.states;
      responses = table.responses;
      operations = rw same table.operations;
      rows = all_set P t.operations o own
          (row_is (length t.states) (length t.responses) s r q old entry.known_response entry.known_next (all_at P t.operations o no_row entry.known_operation table.rows))
          table.rows;
    }

-- ---- what it does

abbrev entry_at : ℕ → Row → ℕ × ℕ
entry_at q row = (get_or row.response q 0, get_or row.next q 0)

there_row : (n m s r q : ℕ) (row : Row) → s < n → IsRow n m row → entry_at s (row_with_entry s r q row) ≡ (r, q)
there_row n m s r q row l is =
    let one : get_or (set row.response s r) s 0 ≡ r = get_or-set_same row.response s r 0 (omega (arith, l, is.response_len)) in
    let other : get_or (set row.next s q) s 0 ≡ q = get_or-set_same row.next s q 0 (omega (arith, l, is.next_len)) in
    rw (one, other) refl

pub entry_there : (t : TypeTable) (operation state response next : ℕ) → IsTypeTable t → IsEntry t operation state response next
    → transition (with_entry t operation state response next) operation state ≡ (response, next)
entry_there t o s r q table entry =
    let old : Row = get_or t.operations o no_row in
    ap (entry_at s) (get_or-set_same t.operations o (row_with_entry s r q old) no_row entry.known_operation)
    ∙ there_row (length t.states) (length t.responses) s r q old entry.known_state
    (all_at (IsRow (length t.states) (length t.responses)) t.operations o no_row entry.known_operation table.rows)

pub entry_elsewhere : (t : TypeTable) (operation state response next o q : ℕ) → o ≢ operation → transition (with_entry t operation state response next) o q ≡ transition t o q
entry_elsewhere t operation s r n o q other =
    ap (entry_at q) (get_or-set_other t.operations operation o (row_with_entry s r n (get_or t.operations operation no_row)) no_row other)

other_rows : (rows : List Row) (p s r n o q : ℕ) → q ≢ s → entry_at q (get_or (set rows p (row_with_entry s r n (get_or rows p no_row))) o no_row) ≡ entry_at q (get_or rows o no_row)
other_rows [] p s r n o q other = refl
other_rows (row ∷ rows) zero s r n zero q other =
    let one : get_or (set row.response s r) q 0 ≡ get_or row.response q 0 = get_or-set_other row.response s q r 0 other in
    let two : get_or (set row.next s n) q 0 ≡ get_or row.next q 0 = get_or-set_other row.next s q n 0 other in
    rw (one, two) refl
other_rows (row ∷ rows) zero s r n (suc o) q other = refl
other_rows (row ∷ rows) (suc p) s r n zero q other = refl
other_rows (row ∷ rows) (suc p) s r n (suc o) q other = other_rows rows p s r n o q other

pub entry_in_other_state : (t : TypeTable) (operation state response next o q : ℕ) → q ≢ state → transition (with_entry t operation state response next) o q ≡ transition t o q
entry_in_other_state t operation s r n o q other = other_rows t.operations operation s r n o q other

-- ---- the table in memory

-- the row that is read is one of the table
pub row_read : (rows : List Transitions) (o : ℕ) (r : Transitions) → o < length rows → r ≡ get_or rows o r → transitions_view r ≡ get_or (map transitions_view rows) o no_row
row_read [] o r l is = absurd (omega arith)
row_read (x ∷ rows) zero r l is = ap transitions_view is
row_read (x ∷ rows) (suc o) r l is = row_read rows o r (omega arith) is

-- the rows with the new one are those of the changed table
pub rows_with : (rows copies : List Transitions) (o s r n : ℕ) (old own : Transitions) → o < length rows → old ≡ get_or rows o old
    → transitions_view own ≡ row_with_entry s r n (transitions_view old) → map transitions_view copies ≡ map transitions_view rows
    → map transitions_view (set copies o own)
    ≡ set (map transitions_view rows) o (row_with_entry s r n (get_or (map transitions_view rows) o no_row))
rows_with rows copies o s r n old own l is made same =
    map-set transitions_view copies o own
    ∙ (ap (λ (rs : List Row). set rs o (transitions_view own)) same
    ∙ ap (λ (row : Row). set (map transitions_view rows) o row) (made ∙ ap (row_with_entry s r n) (row_read rows o old l is)))

-- a table with these parts is the changed one
pub with_these : (t : TypeTable) (o s r n : ℕ) (name : List ℕ) (states responses : List (List ℕ)) (operations : List Row) (read : TypeTable) → read ≡ t → name ≡ read.name
    → states ≡ read.states → responses ≡ read.responses → operations ≡ set read.operations o (row_with_entry s r n (get_or read.operations o no_row))
    → (let u : TypeTable = record { name = name; states = states; responses = responses; operations = operations } in u) ≡ with_entry t o s r n
with_these t o s r n name states responses operations read seen en es er eo = rw (en, es, er, eo) (ap (λ (x : TypeTable). with_entry x o s r n) seen)
