use Rattle.std.proofs.Common.{◌≡◌, ◌++◌, flat_map, string_bytes, take}
use Rattle.cn_text.specs.UnreadViews.{unread_view_rows}
use Rattle.cn_text.proofs.unread_views.push_unread_views.Given as goal

-- the views so far
abbrev pub invariant-loop-view : goal.invariant-loop-view
invariant-loop-view l = string_bytes l.text ≡ string_bytes l.initial.text ++ flat_map (unread_view_rows l.table l.widths) (take l.view-index l.views)
