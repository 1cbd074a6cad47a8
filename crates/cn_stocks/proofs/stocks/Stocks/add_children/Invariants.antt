use Rattle.std.proofs.Common.{◌≡◌, ◌+◌, length}
use Rattle.cn_stocks.specs.Stocks.{AreStocks, GoesOn, HasChildren}
use Rattle.cn_stocks.proofs.stocks.Stocks.add_children.Given as goal

-- the children by the operations so far
abbrev pub invariant-loop-operation : goal.invariant-loop-operation
invariant-loop-operation l = record {
  stocks_are : AreStocks l.fn.operations l.self.list.items l.list.items;
  row : HasChildren l.self.list.items l.list.items l.fn.place l.operation l.row;
  long : length l.row ≡ 8;
  more : GoesOn l.fn.list.items (l.fn.n + 1) l.list.items;
}
