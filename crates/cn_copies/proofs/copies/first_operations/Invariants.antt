use Rattle.std.proofs.Common.{map}
use Rattle.cn_copies.proofs.FirstLemmas.{AreFirstOf}
use Rattle.cn_copies.proofs.copies.first_operations.Given as goal

-- the operations so far that are no copies
abbrev pub invariant-loop-number : goal.invariant-loop-number
invariant-loop-number l = AreFirstOf l.table l.number (map (λ o. o.0) l.list.items)
