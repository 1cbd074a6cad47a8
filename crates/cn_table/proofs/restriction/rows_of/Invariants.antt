use Rattle.std.proofs.Common.{◌≡◌, map, take}
use Rattle.std.specs.Prelude.{slice_index_or}
use Rattle.cn_table.specs.TableView.{transitions_view, transitions_views}
use Rattle.cn_table.specs.TypeTable.{no_row}
use Rattle.cn_table.proofs.restriction.rows_of.Given as goal

-- the rows so far
abbrev pub invariant-loop-operation : goal.invariant-loop-operation
invariant-loop-operation l =
    transitions_views l.copy
    ≡ map (λ o. slice_index_or (map transitions_view l.rows) o.0 no_row) (take l.operation-index l.operations)
