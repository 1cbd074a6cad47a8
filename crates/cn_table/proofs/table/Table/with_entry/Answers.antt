use Rattle.std.proofs.Common.{◌∙◌, ap, arith, length, map, string_bytes, subst, sym}
use Rattle.std.proofs.lemmas.List.{length-map}
use Rattle.cn_table.specs.TableView.{table_view, transitions_view}
use Rattle.cn_table.specs.TypeTable.{IsTypeTable, TypeTable}
use Rattle.cn_table.proofs.OtherEntries.{rows_with, with_these}
use Rattle.cn_table.proofs.Rows.{the_row}
use Rattle.cn_table.proofs.table.Table.with_entry.Goals as goal

pub row_with_entry-requires-clause-response : goal.row_with_entry-requires-clause-response
row_with_entry-requires-clause-response c =
    let row = the_row c.self.inside _ _ _ c.self.view_is c.self.invariant c.requires.known_operation c.index-row.ensures in
    omega (arith, row.response_len, c.requires.known_state)

pub row_with_entry-requires-clause-next : goal.row_with_entry-requires-clause-next
row_with_entry-requires-clause-next c =
    let row = the_row c.self.inside _ _ _ c.self.view_is c.self.invariant c.requires.known_operation c.index-row.ensures in
    omega (arith, row.next_len, c.requires.known_state)

pub invariant_of-result : goal.invariant_of-result
invariant_of-result c =
    subst IsTypeTable
    (sym (with_these c.args.self.now c.args.operation.0 c.args.state.0 c.args.response.0 c.args.next.0 _ _ _ _ (table_view c.self.inside) c.self.view_is
    (c.in_ok-from_str.ensures.ok ∙ c.as_str.ensures.value)
    (c.in_ok-copy_texts.ensures ∙ ap (map (λ s. string_bytes s)) c.deref-2.ensures.value)
    (c.in_ok-copy_texts-2.ensures ∙ ap (map (λ s. string_bytes s)) c.deref-3.ensures.value)
    (rows_with c.self.inside.operations.items c.in_ok-operations.operations.items c.args.operation.0 c.args.state.0 c.args.response.0 c.args.next.0
    c.index-row.result.now c.in_ok-own.own
    (omega (arith, c.requires.known_operation, ap (λ (x : TypeTable). length x.operations) c.self.view_is, length-map c.self.inside.operations.items transitions_view))
    c.index-row.ensures c.in_ok-own.ensures (c.in_ok-operations.ensures ∙ ap (map transitions_view) c.deref.ensures.value))))
    (c.entry_makes_a_table.ensures.table c.args.self.now c.args.operation.0 c.args.state.0 c.args.response.0 c.args.next.0 (subst IsTypeTable c.self.view_is c.self.invariant) c.requires)

pub returns : goal.returns
returns c =
    with_these c.args.self.now c.args.operation.0 c.args.state.0 c.args.response.0 c.args.next.0 _ _ _ _ (table_view c.self.inside) c.self.view_is
    (c.in_ok-from_str.ensures.ok ∙ c.as_str.ensures.value)
    (c.in_ok-copy_texts.ensures ∙ ap (map (λ s. string_bytes s)) c.deref-2.ensures.value)
    (c.in_ok-copy_texts-2.ensures ∙ ap (map (λ s. string_bytes s)) c.deref-3.ensures.value)
    (rows_with c.self.inside.operations.items c.in_ok-operations.operations.items c.args.operation.0 c.args.state.0 c.args.response.0 c.args.next.0
    c.index-row.result.now c.in_ok-own.own
    (omega (arith, c.requires.known_operation, ap (λ (x : TypeTable). length x.operations) c.self.view_is, length-map c.self.inside.operations.items transitions_view))
    c.index-row.ensures c.in_ok-own.ensures (c.in_ok-operations.ensures ∙ ap (map transitions_view) c.deref.ensures.value))
