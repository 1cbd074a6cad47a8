use Rattle.std.proofs.Common.{◌≡◌, ◌++◌, flat_map, string_bytes, take}
use Rattle.cn_markdown.specs.Unread.{view_row}
use Rattle.cn_markdown.proofs.unread.push_views.Given as goal

-- the rows so far
abbrev pub invariant-loop-view : goal.invariant-loop-view
invariant-loop-view l = string_bytes l.text ≡ string_bytes l.initial.text ++ flat_map (view_row l.table) (take l.view-index l.views)
