use Rattle.std.proofs.Common.{◌≡◌, ◌+◌, List, [], ap, arith, length, subst, sym}
use Rattle.std.proofs.lemmas.Option.{none-some}
use Rattle.cn_stocks.specs.declared.stocks.Stock.{Stock}
use Rattle.cn_stocks.specs.Stocks.{AreLong, AreStocks, GoesOn}
use Rattle.cn_stocks.proofs.Growing.{children_push, goes_on_children}
use Rattle.cn_stocks.proofs.StockLemmas.{all_longer, count_push, goes_on_none, goes_on_trans}
use Rattle.cn_stocks.proofs.stocks.Stocks.longer.Goals as goal

pub loop-place-init : goal.loop-place-init
loop-place-init c =
    let none = c.in_ok-list.ensures.items in
    let rows = c.in_ok-children.ensures.items in record {
      stocks_are = subst (λ (list : List Stock). AreStocks c.args.operations c.args.self.now.list.items list) (sym none) (λ i r h. absurd (none-some r h));
      children_are = λ i l. absurd (omega (arith, l, ap length rows));
      count = ap length rows;
      more = subst (λ (list : List Stock). GoesOn [] (c.args.n + 1) list) (sym none) (goes_on_none [] (c.args.n + 1));
    }

pub loop-place-preserved : goal.loop-place-preserved
loop-place-preserved c =
    let before = c.args.self.now.list.items in
    let now = c.loop-place.list.items in
    let new = c.add_children.new.list.items in
    let i = c.loop-place.invariant in
    let rows = goes_on_children c.args.operations before now new (c.args.n + 1) c.loop-place.children.items c.in_ok-row.ensures.more i.children_are in
    record {
      stocks_are = c.in_ok-row.ensures.stocks;
      children_are = children_push c.args.operations before new c.loop-place.children.items c.push.new.self.items c.in_ok-row.row c.loop-place.place c.in_ok-push.ensures.items
          i.count rows c.in_ok-row.ensures.row;
      count = count_push c.loop-place.children.items c.push.new.self.items c.in_ok-row.row c.loop-place.place c.in_ok-push.ensures.items i.count;
      more = goes_on_trans [] now new (c.args.n + 1) i.more c.in_ok-row.ensures.more;
    }

pub returns : goal.returns
returns c =
    let before = c.args.self.now.list.items in
    let now = c.loop-place.list.items in
    let i = c.loop-place.invariant in
    let whole : length c.loop-place.children.items ≡ length before = omega
    (arith, i.count, c.loop-place-test.false, c.loop-place.auto.place-end, c.in_ok-count.ensures, c.len.ensures, c.args.self.now.list.ok.0) in record {
      stocks = i.stocks_are;
      children = i.children_are;
      count = whole;
      long = subst (λ (list : List Stock). AreLong list (c.args.n + 1)) (sym i.more.1) i.more.2;
      all = all_longer c.args.operations c.args.n before now c.loop-place.children.items c.requires.all.1.all whole i.children_are;
    }
