use Rattle.std.proofs.Common.{◌≡◌}
use Rattle.cn_unread_number.specs.Steps.{IsShown}
use Rattle.cn_unread_number.proofs.search.raised.Given as goal

-- each bound has its evidence, and the next step is for one process more
abbrev pub invariant-loop-least : goal.invariant-loop-least
invariant-loop-least l =
    (l.all.least ≡ l.least) × IsShown l.table l.all × (l.all.most ≡ l.fn.shown.most)
