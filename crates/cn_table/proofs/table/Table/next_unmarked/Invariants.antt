use Rattle.std.proofs.Common.{◌≡◌, ℕ, ◌<◌, get_or, length, true, false}
use Rattle.cn_table.specs.TypeTable.{transition}
use Rattle.cn_table.proofs.table.Table.next_unmarked.Given as goal

abbrev pub invariant-loop-p : goal.invariant-loop-p
invariant-loop-p l =
    (k : ℕ) → k < l.p → get_or l.marked k false ≡ true → (o : ℕ) → o < length l.self.operations → get_or l.marked (transition l.self o k).1 false ≡ true
