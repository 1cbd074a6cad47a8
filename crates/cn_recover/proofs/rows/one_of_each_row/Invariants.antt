use Rattle.std.proofs.Common.{map}
use Rattle.cn_recover.proofs.RowLists.{AreOfFirst}
use Rattle.cn_recover.proofs.rows.one_of_each_row.Given as goal

-- one operation of each row so far
abbrev pub invariant-loop-number : goal.invariant-loop-number
invariant-loop-number l = AreOfFirst l.table l.number (map (λ o. o.0) l.list.items)
