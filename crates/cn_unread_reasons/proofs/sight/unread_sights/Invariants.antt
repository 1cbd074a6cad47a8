use Rattle.std.proofs.Common.{All, map, take}
use Rattle.cn_unread_reasons.specs.Known.{IsKnownUnreadSight}
use Rattle.cn_unread_reasons.specs.UnreadSights.{HasEachOnce, told_sight}
use Rattle.cn_unread_reasons.proofs.sight.unread_sights.Given as goal

-- those so far
abbrev pub invariant-loop-sight : goal.invariant-loop-sight
invariant-loop-sight l = record {
  once : HasEachOnce (map (told_sight l.table l.looks) (take l.sight-index l.sight-items)) l.list.items;
  known : All (IsKnownUnreadSight l.table) l.list.items;
}
