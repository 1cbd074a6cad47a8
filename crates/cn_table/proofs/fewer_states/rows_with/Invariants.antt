use Rattle.std.proofs.Common.{◌≡◌, map, take}
use Rattle.cn_table.specs.FewerStates.{row_with}
use Rattle.cn_table.specs.TableView.{transitions_view, transitions_views}
use Rattle.cn_table.proofs.fewer_states.rows_with.Given as goal

-- the rows so far
abbrev pub invariant-loop-row : goal.invariant-loop-row
invariant-loop-row l = transitions_views l.own
    ≡ map (row_with l.kept l.class_of) (map transitions_view (take l.row-index l.rows))
