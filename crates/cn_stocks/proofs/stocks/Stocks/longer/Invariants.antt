use Rattle.std.proofs.Common.{◌≡◌, ◌+◌, [], length}
use Rattle.cn_stocks.specs.Stocks.{AreChildren, AreStocks, GoesOn}
use Rattle.cn_stocks.proofs.stocks.Stocks.longer.Given as goal

-- the children of the stocks so far
abbrev pub invariant-loop-place : goal.invariant-loop-place
invariant-loop-place l = record {
  stocks_are : AreStocks l.fn.operations l.self.list.items l.list.items;
  children_are : AreChildren l.fn.operations l.self.list.items l.list.items l.children.items;
  count : length l.children.items ≡ l.place;
  more : GoesOn [] (l.fn.n + 1) l.list.items;
}
