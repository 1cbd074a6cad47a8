use Rattle.std.proofs.Common.{◌<◌, ℕ, All}
use Rattle.cn_joins.specs.Joins.{IsJoin}
use Rattle.cn_join_find.specs.Reached.{ConnectFrom}
use Rattle.cn_join_find.proofs.against.decide.Given as goal

-- the joins so far connect the operations of each stock from each state so far
abbrev pub invariant-loop-start : goal.invariant-loop-start
invariant-loop-start g l = record {
  are : All (IsJoin l.table) l.joins.items;
  connect : (start : ℕ) → start < l.start → ConnectFrom l.table l.fn.n start l.joins.items;
}
