use Rattle.std.proofs.Common.{◌∙◌, List, [], ap, map, string_bytes, subst, sym}
use Rattle.std.specs.Prelude.{slice_index_or}
use Rattle.std.specs.List.{AllByRecursion}
use Rattle.cn_table.specs.FewerStates.{HasEntries, row_with}
use Rattle.cn_table.specs.TableView.{table_view, transitions_view}
use Rattle.cn_table.specs.TypeTable.{IsTypeTable, TypeTable}
use Rattle.cn_table.specs.declared.table.Transitions.{Transitions}
use Rattle.cn_table.proofs.Classes.{has_entries, made}
use Rattle.cn_table.proofs.table.Table.with_states.Goals as goal

pub rows_with-requires : goal.rows_with-requires
rows_with-requires c =
    let kept = c.args.kept.now in
    let class_of = c.args.class_of.now in
    subst (λ (rows : List Transitions). AllByRecursion (HasEntries kept class_of) (map transitions_view rows)) (sym c.deref-3.ensures.value)
    (subst (λ (x : TypeTable). AllByRecursion (HasEntries kept class_of) x.operations) (sym c.self.view_is)
    (has_entries c.args.self.now kept class_of (subst IsTypeTable c.self.view_is c.self.invariant) c.requires))

pub invariant_of-result : goal.invariant_of-result
invariant_of-result c =
    let kept = c.args.kept.now in
    let class_of = c.args.class_of.now in
    subst IsTypeTable
    (sym (made c.args.self.now kept class_of _ _ _ _ (table_view c.self.inside) c.self.view_is (c.in_ok-from_str.ensures.ok ∙ c.as_str.ensures.value)
    (c.in_ok-names_of.ensures ∙ ap (λ ns. map (λ q. slice_index_or (map (λ s. string_bytes s) ns) q []) kept) c.deref.ensures.value)
    (c.in_ok-copy_texts.ensures ∙ ap (map (λ s. string_bytes s)) c.deref-2.ensures.value)
    (c.in_ok-rows_with.ensures ∙ ap (λ rows. map (row_with kept class_of) (map transitions_view rows)) c.deref-3.ensures.value)))
    (c.classes_make_a_table.ensures c.args.self.now kept class_of (subst IsTypeTable c.self.view_is c.self.invariant) c.requires)

pub returns : goal.returns
returns c =
    let kept = c.args.kept.now in
    let class_of = c.args.class_of.now in
    made c.args.self.now kept class_of _ _ _ _ (table_view c.self.inside) c.self.view_is (c.in_ok-from_str.ensures.ok ∙ c.as_str.ensures.value)
    (c.in_ok-names_of.ensures ∙ ap (λ ns. map (λ q. slice_index_or (map (λ s. string_bytes s) ns) q []) kept) c.deref.ensures.value)
    (c.in_ok-copy_texts.ensures ∙ ap (map (λ s. string_bytes s)) c.deref-2.ensures.value)
    (c.in_ok-rows_with.ensures ∙ ap (λ rows. map (row_with kept class_of) (map transitions_view rows)) c.deref-3.ensures.value)
