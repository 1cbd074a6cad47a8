use Rattle.std.proofs.Common.{[]}
use Rattle.std.proofs.lemmas.List.Elements.{All-push, All-same}
use Rattle.cn_reasons.specs.Known.{IsKnownWay}
use Rattle.cn_reasons.specs.Ways.{IsWayOf}
use Rattle.cn_reasons.proofs.WayLemmas.{zip_more}
use Rattle.cn_reasons.proofs.way.ways_of.Goals as goal

pub loop-entry-preserved : goal.loop-entry-preserved
loop-entry-preserved c =
    let t = c.args.table.now in
    let i = c.loop-entry.invariant in record {
      ways = rw c.in_ok-push.ensures.items
          (zip_more (IsWayOf t) [] c.args.entries.now c.loop-entry.ways.items c.loop-entry.entry-index _ _ c.loop-entry-test.true c.entry-item.is i.ways c.way_of.ensures.way);
      known = All-same (IsKnownWay t) _ _ c.in_ok-push.ensures.items (All-push (IsKnownWay t) c.loop-entry.ways.items _ i.known c.way_of.ensures.known);
    }
