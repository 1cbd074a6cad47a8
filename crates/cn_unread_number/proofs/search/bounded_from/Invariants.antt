use Rattle.std.proofs.Common.{◌≡◌}
use Rattle.cn_unread_number.specs.Steps.{IsShown}
use Rattle.cn_unread_number.proofs.search.bounded_from.Given as goal

-- nothing has changed so far
abbrev pub invariant-loop-most : goal.invariant-loop-most
invariant-loop-most l = (l.all.least ≡ l.fn.shown.least) × IsShown l.table l.all × (l.all.most ≡ l.fn.shown.most)
