use Rattle.std.proofs.Common.{◌≡◌, Some}
use Rattle.std.specs.Prelude.{slice_get}
use Rattle.cn_stocks.specs.declared.stocks.Stock.{Stock}
use Rattle.cn_stocks.specs.Each.{EachAt}
use Rattle.cn_collisions.specs.WordSets.{IsEnds}
use Rattle.cn_collisions.proofs.sets.level_ends.Given as goal

abbrev pub invariant-loop-stock : goal.invariant-loop-stock
invariant-loop-stock l = EachAt (λ i e. (s : Stock) → slice_get l.stocks i ≡ Some s → IsEnds l.table l.fn.size s.operations.items e) l.stock-index l.level.items
