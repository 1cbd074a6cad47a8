use Rattle.std.proofs.Common.{◌≡◌, ◌<◌, ℕ, Some}
use Rattle.std.specs.Prelude.{slice_get}
use Rattle.cn_stocks.specs.declared.stocks.Stock.{Stock}
use Rattle.cn_telling.specs.Candidates.{SplitsFromSome}
use Rattle.cn_telling.specs.Rows.{RowsDiffer}
use Rattle.cn_telling.proofs.exact.some_splits.Given as goal

-- none of the stocks so far splits whose rows differ
abbrev pub invariant-loop-stock : goal.invariant-loop-stock
invariant-loop-stock l = (i : ℕ) (s : Stock) → i < l.stock-index → slice_get l.search.stocks.list.items i ≡ Some s → RowsDiffer l.table s.operations.items → ¬ SplitsFromSome l.table s.operations.items
