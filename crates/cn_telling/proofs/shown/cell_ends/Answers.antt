use Rattle.std.proofs.Common.{ℕ, ◌≡◌, List, Some, ap, arith, length, refl, subst, sym}
use Rattle.std.specs.Prelude.{slice_get}
use Rattle.std.proofs.lemmas.Option.{none-some, slice_get_read}
use Rattle.cn_stocks.specs.declared.stocks.Stock.{Stock}
use Rattle.cn_stocks.specs.Reach.{AreEnds}
use Rattle.cn_stocks.proofs.StockLemmas.{count_push}
use Rattle.cn_telling.specs.declared.ends.Ends.{Ends}
use Rattle.cn_telling.specs.Settings.{AreEndsOf, IsOver}
use Rattle.cn_telling.proofs.CellLemmas.{beside_push, over_cells}
use Rattle.cn_telling.proofs.shown.cell_ends.Goals as goal

pub loop-stock-init : goal.loop-stock-init
loop-stock-init c = record {
  long = ap length c.in_ok-all.ensures.items;
  ends = subst (AreEndsOf c.args.table.now c.args.cells.now) (sym c.in_ok-all.ensures.items) (λ j s e at there. absurd (none-some e there));
}

pub stock_ends-ends-requires : goal.stock_ends-ends-requires
stock_ends-ends-requires c =
    let t = c.args.table.now in
    let cells = c.args.cells.now in
    let i = c.loop-stock.stock-index in
    let s = c.stock-item.result in
    let here = slice_get_read cells (length cells) i s refl c.loop-stock-test.true c.stock-item.is in (
      cells,
      subst (λ (ends : List Ends). IsOver t cells ends s) (sym c.as_slice.ensures.value)
          (over_cells t cells c.loop-stock.all.items i s c.requires c.loop-stock.invariant.ends (omega (arith, c.loop-stock.invariant.long)) here),
    )

pub loop-stock-preserved : goal.loop-stock-preserved
loop-stock-preserved c =
    let t = c.args.table.now in
    let cells = c.args.cells.now in
    let i = c.loop-stock.stock-index in
    let s = c.stock-item.result in
    let v = c.loop-stock.invariant in
    let here = slice_get_read cells (length cells) i s refl c.loop-stock-test.true c.stock-item.is in
    let pushed = c.in_ok-push.ensures.items in
    let ends = c.stock_ends-ends.result in
    record {
      long = count_push c.loop-stock.all.items c.push.new.self.items ends i pushed v.long;
      ends = subst (AreEndsOf t cells) (sym pushed)
          (beside_push (λ (stock : Stock) (e : Ends). AreEnds t stock.operations.items (length t.states) e.states) cells c.loop-stock.all.items s ends
          (subst (λ (n : ℕ). slice_get cells n ≡ Some s) (sym v.long) here) c.stock_ends-ends.ensures v.ends);
    }

pub returns-clause-count : goal.returns-clause-count
returns-clause-count c = omega (arith, c.loop-stock.invariant.long, c.loop-stock-test.false, c.loop-stock.auto.stock-index-end)

pub returns-clause-ends : goal.returns-clause-ends
returns-clause-ends c = c.loop-stock.invariant.ends
