use Rattle.std.proofs.Common.{◌≡◌, ℕ, ◌<◌, get_or, true, false}
use Rattle.cn_table.specs.TypeTable.{transition}
use Rattle.cn_table.proofs.table.Table.next_unmarked_from.Given as goal

abbrev pub invariant-loop-o : goal.invariant-loop-o
invariant-loop-o l = (k : ℕ) → k < l.o → get_or l.marked (transition l.self k l.from.0).1 false ≡ true
