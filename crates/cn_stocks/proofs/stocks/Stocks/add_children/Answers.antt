use Rattle.std.proofs.Common.{ℕ, ◌≡◌, ◌<◌, ◌≤◌, ◌+◌, ◌∙◌, List, ap, arith, length, length-set, refl, replicate, subst, sym}
use Rattle.cn_stocks.specs.declared.stocks.Stock.{Stock}
use Rattle.cn_stocks.specs.Stocks.{AreStocks, GoesOn}
use Rattle.cn_stocks.specs.Words.{times}
use Rattle.cn_stocks.proofs.Growing.{row_first, row_push}
use Rattle.cn_stocks.proofs.StockLemmas.{goes_on_none, goes_on_push, items_of, length_last, read_stock, same_items, stocks_push}
use Rattle.cn_stocks.proofs.stocks.Stocks.add_children.Goals as goal

pub loop-operation-init : goal.loop-operation-init
loop-operation-init c =
    let before = c.args.self.now.list.items in
    let s = c.index.result.now in
    let inside : c.args.place < length before = omega (arith, c.requires.place, c.args.self.now.list.ok.0) in
    let here = read_stock before c.args.place s inside c.index.ensures in record {
      stocks_are = c.requires.stocks;
      row = row_first before c.args.list.now.items c.args.place s (replicate 8 0) here (c.requires.all.1.stocks c.args.place s here).greatest;
      long = refl;
      more = goes_on_none c.args.list.now.items (c.args.n + 1);
    }

pub child_of-child-requires-clause-up_to : goal.child_of-child-requires-clause-up_to
child_of-child-requires-clause-up_to c items at o l =
    let before = c.args.self.now.list.items in
    let s = c.index.result.now in
    let inside : c.args.place < length before = omega (arith, c.requires.place, c.args.self.now.list.ok.0) in
    let here = read_stock before c.args.place s inside c.index.ensures in
    let same = same_items before c.args.place items s.operations.items at (items_of before c.args.place s here) in
    let up = (c.requires.all.1.stocks c.args.place s here).greatest.up_to o (subst (λ (list : List ℕ). 1 ≤ times o list) same l) in
    omega (arith, up, c.loop-operation.auto.operation)

pub loop-operation-preserved : goal.loop-operation-preserved
loop-operation-preserved c =
    let before = c.args.self.now.list.items in
    let now = c.loop-operation.list.items in
    let place = c.args.place in
    let i = c.loop-operation.invariant in
    let child = c.child_of-child.result in
    let pushed = c.in_ok-push.ensures.items in
    let s = c.index.result.now in
    let inside : place < length before = omega (arith, c.requires.place, c.args.self.now.list.ok.0) in
    let here = read_stock before place s inside c.index.ensures in
    let at = items_of before place s here in
    let longer : length child.operations.items ≡ c.args.n + 1 =
    omega (arith, ap length (c.child_of-child.ensures.items s.operations.items at), length_last s.operations.items c.loop-operation.operation, c.requires.all.1.long place s.operations.items at) in
    record {
      stocks_are = subst (λ (stocks : List Stock). AreStocks c.args.operations before stocks) (sym pushed) (stocks_push c.args.operations before now child i.stocks_are c.child_of-child.ensures.stock);
      row = row_push before now c.push.new.self.items place c.loop-operation.operation c.loop-operation.row child c.in_ok-at.at pushed
          (omega (arith, c.in_ok-at.ensures, c.len.ensures, c.loop-operation.list.ok.0))
          (omega (arith, i.long, c.loop-operation-test.true, c.requires.few)) c.child_of-child.ensures.items i.row;
      long = length-set c.loop-operation.row c.loop-operation.operation c.in_ok-at.at ∙ i.long;
      more = subst (λ (stocks : List Stock). GoesOn c.args.list.now.items (c.args.n + 1) stocks) (sym pushed) (goes_on_push c.args.list.now.items now (c.args.n + 1) child i.more longer);
    }

pub returns : goal.returns
returns c = record {
  stocks = c.loop-operation.invariant.stocks_are;
  row = λ items at x l up. c.loop-operation.invariant.row items at x (omega (arith, l, c.loop-operation-test.false)) up;
  more = c.loop-operation.invariant.more;
}
