use Rattle.std.proofs.Common.{◌≡◌, ◌++◌, ◌∷◌, ◌∙◌, List, ℕ, [], ap, arith, length, refl, ◌<◌}
use Rattle.cn_stocks.proofs.Growing.{stock_of_child}
use Rattle.cn_stocks.proofs.StockLemmas.{items_of, read_stock, same_items}
use Rattle.cn_stocks.proofs.stocks.Stocks.child_of.Goals as goal

pub returns-clause-stock : goal.returns-clause-stock
returns-clause-stock c =
    let stocks = c.args.self.now.list.items in
    let place = c.args.place in
    let s = c.index.result.now in
    let inside : place < length stocks = omega (arith, c.requires.place, c.args.self.now.list.ok.0) in
    let here = read_stock stocks place s inside c.index.ensures in
    let is = c.requires.all.1.stocks place s here in
    let at = items_of stocks place s here in
    let list : c.longer.result.items ≡ s.operations.items ++ c.args.operation ∷ [] = c.longer.ensures ∙ ap (λ (l : List ℕ). l ++ c.args.operation ∷ []) c.as_slice.ensures.value in
    stock_of_child c.args.operations c.args.operation stocks
    (record { operations = c.longer.result; greatest = c.args.operation; less = c.less_with-less.result }) s.operations.items list refl c.requires.operation is.known
    (c.requires.up_to s.operations.items at) (c.less_with-less.ensures s.operations.items at)

pub returns-clause-items : goal.returns-clause-items
returns-clause-items c items at =
    let stocks = c.args.self.now.list.items in
    let s = c.index.result.now in
    let inside : c.args.place < length stocks = omega (arith, c.requires.place, c.args.self.now.list.ok.0) in
    let here = read_stock stocks c.args.place s inside c.index.ensures in
    let same = same_items stocks c.args.place s.operations.items items (items_of stocks c.args.place s here) at in
    c.longer.ensures ∙ ap (λ (l : List ℕ). l ++ c.args.operation ∷ []) (c.as_slice.ensures.value ∙ same)
