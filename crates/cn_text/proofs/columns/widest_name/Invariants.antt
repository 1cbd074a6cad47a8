use Rattle.std.proofs.Common.{◌≡◌, take}
use Rattle.cn_text.specs.Columns.{names_of, widest}
use Rattle.cn_text.proofs.columns.widest_name.Given as goal

-- the widest so far
abbrev pub invariant-loop-number : goal.invariant-loop-number
invariant-loop-number l = l.width ≡ widest (take l.number (names_of l.table l.named))
