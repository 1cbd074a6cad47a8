use Rattle.std.proofs.Common.{ℕ, ◌≡◌, ◌-◌, ◌<◌, ◌↔◌, List, arith, length, refl, subst}
use Rattle.std.proofs.lemmas.Option.{slice_get_read}
use Rattle.cn_stocks.specs.Pairs.{Has, set_at}
use Rattle.cn_stocks.specs.Words.{Shows}
use Rattle.cn_stocks.proofs.StockLemmas.{items_of, same_items}
use Rattle.cn_telling.proofs.CellLemmas.{over_cells}
use Rattle.cn_join_find.proofs.crossing.whole_pairs.Goals as goal

pub shown_by_each-requires-clause-asking : goal.shown_by_each-requires-clause-asking
shown_by_each-requires-clause-asking c =
    let v = c.args.views.now in
    let list = v.cells.stocks.now in
    let last : ℕ = length list - 1 in
    let s = c.index-stocks-last.result in
    let inside : last < length list = omega (arith, c.requires.some) in
    let here = slice_get_read list (length list) last s refl inside c.index-stocks-last.is in
    let are = c.requires.views.cells in
    record {
      before = list;
      over = over_cells v.cells.table.now list v.cells.ends.now last s are.over are.ends (omega (arith, are.count)) here;
      shown_are = c.requires.views.shown;
      within = λ x j link. omega (arith, are.over.back last s here x j link, c.requires.views.count);
      asked_known = c.requires.views.asked_known;
    }

pub returns : goal.returns
returns c whole at f r q =
    let v = c.args.views.now in
    let list = v.cells.stocks.now in
    let last : ℕ = length list - 1 in
    let s = c.index-stocks-last.result in
    let inside : last < length list = omega (arith, c.requires.some) in
    let here = slice_get_read list (length list) last s refl inside c.index-stocks-last.is in
    let same : s.operations.items ≡ whole = same_items list last s.operations.items whole (items_of list last s here) at in
    subst (λ (items : List ℕ). Has (set_at c.shown_by_each.result f) r q ↔ Shows v.cells.table.now c.args.start items f v.asked r q) same (c.shown_by_each.ensures f r q)
