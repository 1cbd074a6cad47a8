use Rattle.std.proofs.Common.{◌≡◌, map, take}
use Rattle.cn_table.specs.TableView.{transitions_view, transitions_views}
use Rattle.cn_table.proofs.table.copy_all_transitions.Given as goal

-- the rows so far
abbrev pub invariant-loop-row : goal.invariant-loop-row
invariant-loop-row l = transitions_views l.copy ≡ map transitions_view (take l.row-index l.rows)
