use Rattle.std.proofs.Common.{arith}
use Rattle.std.proofs.lemmas.List.{length-map}
use Rattle.cn_table.specs.FewerStates.{HasEntries}
use Rattle.cn_table.specs.TableView.{transitions_view}
use Rattle.cn_table.proofs.Rows.{row_holds}
use Rattle.cn_table.proofs.fewer_states.rows_with.Goals as goal

pub row_with-requires : goal.row_with-requires
row_with-requires c =
    row_holds (HasEntries c.args.kept.now c.args.class_of.now) c.args.rows.now c.loop-row.row-index c.row-item.result
    (omega (arith, length-map c.args.rows.now transitions_view)) c.row-item.is c.requires
