use Rattle.std.proofs.Common.{◌≡◌, ◌+◌, List, [], ◌∷◌, ◌++◌, map, subst, sym, take}
use Rattle.cn_unread_reasons.specs.Known.{IsKnownUnreadSight}
use Rattle.cn_unread_reasons.specs.UnreadSights.{HasEachOnce, told_sight}
use Rattle.cn_unread_reasons.specs.declared.sight.UnreadSight.{UnreadSight}
use Rattle.cn_unread_reasons.proofs.EachOnce.{all_more, each_once_more, map_more}
use Rattle.cn_unread_reasons.proofs.sight.unread_sights.Goals as goal

pub loop-sight-preserved : goal.loop-sight-preserved
loop-sight-preserved c =
    let t = c.args.table.now in
    let f = told_sight t c.args.looks.now in
    let seen = c.as_slice-sight-items.result.now in
    let i = c.loop-sight.sight-index in
    let old = c.loop-sight.list.items in
    let new = c.push_new.new.list.items in
    let told = c.told_sight.result in
    let more = c.in_ok-push_new.ensures.same in
    let xs : List UnreadSight = map f (take i seen) in
    let front : map f (take (i + 1) seen) ≡ xs ++ told ∷ [] = rw c.told_sight.ensures.told (map_more f seen i _ c.loop-sight-test.true) in record {
      once = subst (λ (zs : List UnreadSight). HasEachOnce zs new) (sym front) (each_once_more xs old new told more c.in_ok-push_new.ensures.once c.loop-sight.invariant.once);
      known = all_more xs old new told more (IsKnownUnreadSight t) c.loop-sight.invariant.known c.told_sight.ensures.known;
    }
