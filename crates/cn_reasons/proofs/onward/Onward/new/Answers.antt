use Rattle.std.proofs.Common.{◌≡◌, ◌+◌, arith, subst}
use Rattle.cn_stocks.specs.Each.{EachAt}
use Rattle.cn_stocks.proofs.EachLemmas.{each_none, each_push}
use Rattle.cn_reasons.specs.Onward.{AreEnds}
use Rattle.cn_reasons.proofs.onward.Onward.new.Goals as goal

pub loop-count-init : goal.loop-count-init
loop-count-init c = record {
  rows = each_none _ c.in_ok-rows.rows.items c.in_ok-rows.ensures.items;
  row = c.no_operation-row.ensures;
}

pub loop-count-preserved : goal.loop-count-preserved
loop-count-preserved c =
    let i = c.loop-count.invariant in record {
      rows = each_push _ c.loop-count.rows.items c.push.new.self.items c.loop-count.row c.loop-count.count c.in_ok-push.ensures.items i.rows i.row;
      row = c.longer-row.ensures;
    }
