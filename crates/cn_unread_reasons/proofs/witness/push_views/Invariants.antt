use Rattle.std.proofs.Common.{All, List, ◌++◌, take}
use Rattle.std.specs.List.{AllZip}
use Rattle.cn_unread_reasons.specs.Known.{IsKnownUnreadView}
use Rattle.cn_unread_reasons.specs.UnreadWitnesses.{IsUnreadViewOf}
use Rattle.cn_reasons.specs.declared.group.Group.{Group}
use Rattle.cn_unread_reasons.proofs.witness.push_views.Given as goal

-- the views of the groups so far
abbrev pub invariant-loop-group : goal.invariant-loop-group
invariant-loop-group l = record {
  views : (before : List Group) → AllZip (IsUnreadViewOf l.table l.looks l.choice) before l.initial.views.items
      → AllZip (IsUnreadViewOf l.table l.looks l.choice) (before ++ take l.group-index l.groups) l.views.items;
  known : All (IsKnownUnreadView l.table) l.views.items;
}
