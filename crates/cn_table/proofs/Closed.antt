-- Tables are closed.
use Rattle.std.proofs.Common.{ℕ, ◌<◌, length, get_or, subst, sym}
use Rattle.std.proofs.lemmas.List.Elements.{All-from_recursion, All-get_or}
use Rattle.cn_table.specs.TypeTable.{IsClosed, IsRow, IsTypeTable, TypeTable, no_row}

pub table_closed : (t : TypeTable) → IsTypeTable t → IsClosed t
table_closed t table o q l m =
    let row = All-get_or (IsRow (length t.states) (length t.responses)) t.operations o no_row l
    (All-from_recursion (IsRow (length t.states) (length t.responses)) t.operations table.rows)
    in
    All-get_or (λ s. s < length t.states) (get_or t.operations o no_row).next q 0
    (subst (λ (k : ℕ). q < k) (sym row.next_len) m)
    (All-from_recursion (λ s. s < length t.states) (get_or t.operations o no_row).next row.next)
