use Rattle.std.proofs.Common.{◌≡◌, ◌++◌, ◌∷◌, ◌∙◌, List, ℕ, [], ap, arith, length, refl, sym, ◌<◌}
use Rattle.cn_stocks.specs.declared.stocks.Stock.{Stock}
use Rattle.cn_stocks.proofs.Growing.{stock_of_child}
use Rattle.cn_stocks.proofs.StockLemmas.{items_of, read_stock, same_items}
use Rattle.cn_telling.proofs.cells.Block.next.Goals as goal

pub returns-clause-stock : goal.returns-clause-stock
returns-clause-stock c =
    let list = c.args.list.now in
    let place = c.args.place in
    let b = c.args.self.now in
    let s = c.index-list-place.result in
    let is = c.requires.underway in
    let inside : place < length list = omega (arith, is.long, is.size) in
    let here = read_stock list place s inside c.index-list-place.is in
    let at = items_of list place s here in
    let items : c.longer.result.items ≡ s.operations.items ++ b.operation ∷ [] = c.longer.ensures ∙ ap (λ (l : List ℕ). l ++ b.operation ∷ []) (c.as_slice.ensures.value ∙ ap (λ (x : Stock). x.operations.items) (sym c.index-list-place.is)) in
    stock_of_child 8 b.operation list
    (record { operations = c.longer.result; greatest = b.operation; less = c.links-less.result }) s.operations.items items refl is.operation (is.linked.stocks place s here).known
    (is.up_to place s.operations.items at) (c.links-less.ensures.smaller s.operations.items at)

pub returns-clause-items : goal.returns-clause-items
returns-clause-items c items at =
    let list = c.args.list.now in
    let s = c.index-list-place.result in
    let is = c.requires.underway in
    let inside : c.args.place < length list = omega (arith, is.long, is.size) in
    let here = read_stock list c.args.place s inside c.index-list-place.is in
    let same = same_items list c.args.place s.operations.items items (items_of list c.args.place s here) at in
    c.longer.ensures ∙ ap (λ (l : List ℕ). l ++ c.args.self.now.operation ∷ []) (c.as_slice.ensures.value ∙ (ap (λ (x : Stock). x.operations.items) (sym c.index-list-place.is) ∙ same))
