use Rattle.std.proofs.Common.{◌≤◌, length}
use Rattle.cn_signs.proofs.search.list_of.Given as goal

abbrev pub invariant-loop-operation : goal.invariant-loop-operation
invariant-loop-operation l = length l.list.items ≤ l.operation
