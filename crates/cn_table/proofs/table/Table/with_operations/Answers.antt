use Rattle.std.proofs.Common.{◌∙◌, map, subst, sym}
use Rattle.cn_table.specs.TypeTable.{IsTypeTable}
use Rattle.cn_table.specs.declared.elements.Operation.{Operation}
use Rattle.cn_table.proofs.Restrictions.{rows_known, view_restricted}
use Rattle.cn_table.proofs.table.Table.with_operations.Goals as goal

pub rows_of-requires : goal.rows_of-requires
rows_of-requires c =
    rows_known c.self.inside c.args.self.now c.deref.result.now c.args.operations.now c.self.view_is c.deref.ensures.value c.requires.known

pub invariant_of-table : goal.invariant_of-table
invariant_of-table c =
    subst IsTypeTable
    (sym (view_restricted c.table.inside c.self.inside c.args.self.now c.in_ok-table-inside.field-0 c.deref.result.now c.args.operations.now
    (c.table.view_is ∙ c.in_ok-table.ensures) c.self.view_is c.deref.ensures.value c.in_ok-table-inside.ensures))
    (c.restriction_is_a_table.ensures c.args.self.now (map (λ (o : Operation). o.0) c.args.operations.now)
    (subst IsTypeTable c.self.view_is c.self.invariant) c.requires)

pub returns : goal.returns
returns c =
    view_restricted c.table.inside c.self.inside c.args.self.now c.in_ok-table-inside.field-0 c.deref.result.now c.args.operations.now
    (c.table.view_is ∙ c.in_ok-table.ensures) c.self.view_is c.deref.ensures.value c.in_ok-table-inside.ensures
