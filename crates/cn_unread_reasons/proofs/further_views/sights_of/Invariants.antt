use Rattle.std.proofs.Common.{◌≢◌, ◌↔◌, All, Contains, take}
use Rattle.std.specs.Prelude.{AllPairs}
use Rattle.cn_table.specs.TypeTable.{TypeTable}
use Rattle.cn_further.specs.FurtherSights.{IsKnownSight}
use Rattle.cn_unread_reasons.specs.FurtherViews.{IsToldOf}
use Rattle.cn_unread_reasons.specs.Known.{IsKnownUnreadSight}
use Rattle.cn_unread_reasons.specs.declared.sight.UnreadSight.{UnreadSight}
use Rattle.cn_unread_reasons.proofs.further_views.sights_of.Given as goal

-- so it is of those so far
abbrev pub invariant-loop-sight : goal.invariant-loop-sight
invariant-loop-sight l = record {
  same : (s : UnreadSight) → Contains l.list.items s ↔ IsToldOf (take l.sight-index l.sights) l.fn.team l.process s;
  once : AllPairs (λ x y. x ≢ y) l.list.items;
  known : (t : TypeTable) → All (IsKnownSight t) l.sights → All (IsKnownUnreadSight t) l.list.items;
}
