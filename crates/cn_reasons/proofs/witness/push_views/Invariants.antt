use Rattle.std.proofs.Common.{All, List, ◌++◌, take}
use Rattle.std.specs.List.{AllZip}
use Rattle.cn_reasons.specs.Known.{IsKnownView}
use Rattle.cn_reasons.specs.Witnesses.{IsViewOf}
use Rattle.cn_reasons.specs.declared.group.Group.{Group}
use Rattle.cn_reasons.proofs.witness.push_views.Given as goal

-- the views of the groups so far
abbrev pub invariant-loop-group : goal.invariant-loop-group
invariant-loop-group l = record {
  views : (before : List Group) → AllZip (IsViewOf l.table l.choice) before l.initial.views.items
      → AllZip (IsViewOf l.table l.choice) (before ++ take l.group-index l.groups) l.views.items;
  known : All (IsKnownView l.table) l.views.items;
}
