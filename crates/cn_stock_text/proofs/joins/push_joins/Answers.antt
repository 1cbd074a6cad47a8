use Rattle.cn_stock_text.specs.Joins.{join_line}
use Rattle.cn_stock_text.proofs.Behind.{flat_more}
use Rattle.cn_stock_text.proofs.joins.push_joins.Goals as goal

pub loop-join-preserved : goal.loop-join-preserved
loop-join-preserved c =
    flat_more (join_line c.args.table.now) c.args.joins.now c.loop-join.join-index c.join-item.result _ _ _ c.loop-join-test.true c.join-item.is c.loop-join.invariant c.in_ok-push_join.ensures
