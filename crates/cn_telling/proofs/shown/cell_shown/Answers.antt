use Rattle.std.proofs.Common.{ℕ, ◌≡◌, List, Some, ap, arith, length, refl, subst, sym}
use Rattle.std.specs.Prelude.{slice_get}
use Rattle.std.proofs.lemmas.Option.{none-some, slice_get_read}
use Rattle.cn_stocks.specs.declared.stocks.Stock.{Stock}
use Rattle.cn_stocks.specs.Reach.{ArePairsTo}
use Rattle.cn_stocks.proofs.StockLemmas.{count_push}
use Rattle.cn_telling.specs.declared.shown.Shown.{Shown}
use Rattle.cn_telling.specs.Asking.{AreShownOf}
use Rattle.cn_telling.specs.Settings.{LinksBelow}
use Rattle.cn_telling.proofs.CellLemmas.{beside_push, over_cells}
use Rattle.cn_telling.proofs.shown.cell_shown.Goals as goal

pub loop-stock-init : goal.loop-stock-init
loop-stock-init c = record {
  long = ap length c.in_ok-all.ensures.items;
  shown = subst (AreShownOf c.args.table.now c.args.asked c.args.cells.now) (sym c.in_ok-all.ensures.items) (λ j s e at there. absurd (none-some e there));
}

pub stock_shown-shown-requires : goal.stock_shown-shown-requires
stock_shown-shown-requires c =
    let t = c.args.table.now in
    let cells = c.args.cells.now in
    let i = c.loop-stock.stock-index in
    let s = c.stock-item.result in
    let v = c.loop-stock.invariant in
    let here = slice_get_read cells (length cells) i s refl c.loop-stock-test.true c.stock-item.is in
    record {
      before = cells;
      over = over_cells t cells c.args.ends.now i s c.requires.cells c.requires.ends (omega (arith, c.requires.count, c.loop-stock-test.true)) here;
      shown_are = subst (AreShownOf t c.args.asked cells) (sym c.as_slice.ensures.value) v.shown;
      within = subst (λ (shown : List Shown). LinksBelow (length shown) s) (sym c.as_slice.ensures.value) (λ x j link. omega (arith, c.requires.cells.back i s here x j link, v.long));
      asked_known = c.requires.asked;
    }

pub loop-stock-preserved : goal.loop-stock-preserved
loop-stock-preserved c =
    let t = c.args.table.now in
    let cells = c.args.cells.now in
    let i = c.loop-stock.stock-index in
    let s = c.stock-item.result in
    let v = c.loop-stock.invariant in
    let here = slice_get_read cells (length cells) i s refl c.loop-stock-test.true c.stock-item.is in
    let pushed = c.in_ok-push.ensures.items in
    let shown = c.stock_shown-shown.result in
    record {
      long = count_push c.loop-stock.all.items c.push.new.self.items shown i pushed v.long;
      shown = subst (AreShownOf t c.args.asked cells) (sym pushed)
          (beside_push (λ (stock : Stock) (p : Shown). ArePairsTo t stock.operations.items c.args.asked p.pairs) cells c.loop-stock.all.items s shown
          (subst (λ (n : ℕ). slice_get cells n ≡ Some s) (sym v.long) here) c.stock_shown-shown.ensures v.shown);
    }

pub returns-clause-count : goal.returns-clause-count
returns-clause-count c = omega (arith, c.loop-stock.invariant.long, c.loop-stock-test.false, c.loop-stock.auto.stock-index-end)

pub returns-clause-shown : goal.returns-clause-shown
returns-clause-shown c = c.loop-stock.invariant.shown
