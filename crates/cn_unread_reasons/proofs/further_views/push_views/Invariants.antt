use Rattle.std.proofs.Common.{All, List, ◌++◌, take}
use Rattle.std.specs.List.{AllZip}
use Rattle.cn_table.specs.TypeTable.{TypeTable}
use Rattle.cn_choice.specs.Canonical.{Choice}
use Rattle.cn_further.specs.FurtherSights.{AreFurtherSights, IsKnownSight}
use Rattle.cn_further.specs.declared.follow_up.FollowUp.{FollowUp}
use Rattle.cn_reasons.specs.Known.{IsKnownGroup}
use Rattle.cn_reasons.specs.declared.group.Group.{Group}
use Rattle.cn_unread_reasons.specs.FurtherViews.{IsFurtherViewOf}
use Rattle.cn_unread_reasons.specs.Known.{IsKnownUnreadView}
use Rattle.cn_unread_reasons.proofs.further_views.push_views.Given as goal

-- the views of the groups so far
abbrev pub invariant-loop-group : goal.invariant-loop-group
invariant-loop-group l = record {
  views : (t : TypeTable) (c : Choice) (follow_ups : List FollowUp) (before : List Group) → AreFurtherSights t c follow_ups l.sights
      → AllZip (IsFurtherViewOf t follow_ups c) before l.initial.views.items
      → AllZip (IsFurtherViewOf t follow_ups c) (before ++ take l.group-index l.groups) l.views.items;
  known : (t : TypeTable) → All (IsKnownSight t) l.sights → All (IsKnownGroup t) l.groups → All (IsKnownUnreadView t) l.initial.views.items
      → All (IsKnownUnreadView t) l.views.items;
}
