use Rattle.std.proofs.Common.{◌≤◌, length}
use Rattle.cn_views.proofs.SilentLists.{Ascends, HasSilent}
use Rattle.cn_views.proofs.silent.silent_operations.Given as goal

-- the silent ones so far
abbrev pub invariant-loop-operation : goal.invariant-loop-operation
invariant-loop-operation l = record {
  has : HasSilent l.table l.operation l.silent.items;
  ascends : Ascends l.table l.silent.items;
  few : length l.silent.items ≤ l.operation;
}
