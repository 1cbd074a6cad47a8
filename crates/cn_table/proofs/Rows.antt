-- The rows of a table, by their places.
use Rattle.std.proofs.Common.{◌≡◌, ℕ, zero, suc, ◌<◌, List, [], ◌∷◌, length, get_or, map, Some, string_bytes, arith, refl}
use Rattle.std.specs.List.{AllByRecursion, slice_get}
use Rattle.std.proofs.lemmas.List.{length-map}
use Rattle.std.proofs.lemmas.Option.{slice_get-map, slice_get_read}
use Rattle.cn_table.specs.DraftView.{texts_view}
use Rattle.cn_table.specs.TypeTable.{IsRow, IsTypeTable, Row, TypeTable}
use Rattle.cn_table.specs.TableView.{table_view, transitions_view}
use Rattle.cn_table.specs.declared.table.Table.TheInside.{Inside}
use Rattle.cn_table.specs.declared.table.Transitions.{Transitions}

pub all_at : {X : Type 0} (P : X → Type 0) (xs : List X) (i : ℕ) (d : X) → i < length xs → AllByRecursion P xs → P (get_or xs i d)
all_at P [] i d within all = absurd (omega arith)
all_at P (x ∷ xs) zero d within all = all.0
all_at P (x ∷ xs) (suc i) d within all = all_at P xs i d (omega arith) all.1

-- a property of each row of the view holds for each row in memory
pub row_holds : (P : Row → Type 0) (rows : List Transitions) (i : ℕ) (r : Transitions) → i < length (map transitions_view rows) → r ≡ get_or rows i r
    → AllByRecursion P (map transitions_view rows) → P (transitions_view r)
row_holds P [] i r within is all = absurd (omega arith)
row_holds P (x ∷ xs) zero r within is all = rw is all.0
row_holds P (x ∷ xs) (suc i) r within is all = row_holds P xs i r (omega arith) is all.1

-- the name of a row, by its place
pub name_at : (rows : List Transitions) (i : ℕ) (r : Transitions) → i < length (map transitions_view rows) → r ≡ get_or rows i r
    → slice_get (map (λ row. row.name) (map transitions_view rows)) i ≡ Some (string_bytes r.name)
name_at rows i r within is =
    let below : i < length rows = omega (arith, within, length-map rows transitions_view) in
    rw (slice_get-map (λ (row : Row). row.name) (map transitions_view rows) i, slice_get-map transitions_view rows i, slice_get_read rows (length rows) i r refl below is) refl

-- the row that is read is one of the table
pub the_row : (inside : Inside) (t : TypeTable) (o : ℕ) (r : Transitions) → table_view inside ≡ t → IsTypeTable (table_view inside) → o < length t.operations → r ≡ get_or inside.operations.items o r
    → IsRow (length t.states) (length t.responses) (transitions_view r)
the_row inside t o r seen table within is =
    rw (← seen) (row_holds (IsRow (length (texts_view inside.states)) (length (texts_view inside.responses))) inside.operations.items o r (rw (← seen) at within) is table.rows)
