use Rattle.std.proofs.Common.{◌≡◌, drop, max}
use Rattle.cn_text.specs.UnreadViews.{widest_sight}
use Rattle.cn_text.proofs.unread_views.widest_sight.Given as goal

-- the widest so far, and the others
abbrev pub invariant-loop-view : goal.invariant-loop-view
invariant-loop-view l = max l.width (widest_sight l.table (drop l.view-index l.views)) ≡ widest_sight l.table l.views
