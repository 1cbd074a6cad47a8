use Rattle.std.proofs.Common.{◌<◌, ℕ, List}
use Rattle.cn_join_find.specs.Crossing.{IsWhole, NoneShown}
use Rattle.cn_join_find.proofs.crossing.crossing.Given as goal

-- words show none of the operations so far the same behind one of the set and behind another
abbrev pub invariant-loop-asked : goal.invariant-loop-asked
invariant-loop-asked l = (whole : List ℕ) → IsWhole l.cells whole → (o : ℕ) → o < l.asked → NoneShown l.cells.table.now l.fn.start whole l.fn.set o
