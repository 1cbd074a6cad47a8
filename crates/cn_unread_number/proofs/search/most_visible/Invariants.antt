use Rattle.std.proofs.Common.{◌≡◌}
use Rattle.cn_unread_number.specs.Bounds.{most_with_reads}
use Rattle.cn_unread_number.specs.Steps.{IsShown}
use Rattle.cn_unread_number.proofs.search.most_visible.Given as goal

-- each bound has its evidence, and the next choice is for one process more
abbrev pub invariant-loop-least : goal.invariant-loop-least
invariant-loop-least l =
    (l.shown.least ≡ l.least) × IsShown l.table l.shown × (l.shown.most ≡ most_with_reads l.fn.number)
