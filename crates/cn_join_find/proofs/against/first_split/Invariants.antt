use Rattle.std.proofs.Common.{◌≡◌, ◌<◌, ℕ, All, Some}
use Rattle.std.specs.Prelude.{slice_get}
use Rattle.cn_joins.specs.Joins.{Connect}
use Rattle.cn_stocks.specs.declared.stocks.Stock.{Stock}
use Rattle.cn_telling.specs.Rows.{RowsDiffer}
use Rattle.cn_join_find.specs.Reached.{AreMore, IsJoinFrom}
use Rattle.cn_join_find.proofs.against.first_split.Given as goal

-- the joins connect the operations of the stocks so far
abbrev pub invariant-loop-stock : goal.invariant-loop-stock
invariant-loop-stock l = record {
  more : AreMore l.table l.fn.start l.fn.joins.items l.joins.items;
  are : All (IsJoinFrom l.table l.fn.start) l.joins.items;
  connect : (i : ℕ) (s : Stock) → i < l.stock-index → slice_get l.search.stocks.list.items i ≡ Some s → RowsDiffer l.table s.operations.items → Connect l.joins.items l.fn.start s.operations.items;
}
