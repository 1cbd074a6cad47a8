use Rattle.std.proofs.Common.{ℕ, ◌≡◌, List, subst, sym}
use Rattle.cn_stocks.specs.declared.stocks.Stock.{Stock}
use Rattle.cn_stocks.specs.Words.{IsKnown}
use Rattle.cn_telling.specs.Asking.{AreCellsOver}
use Rattle.cn_telling.specs.Cells.{AreCellsOf}
use Rattle.cn_telling.specs.Settings.{AreEndsOf}
use Rattle.cn_telling.specs.declared.ends.Ends.{Ends}
use Rattle.cn_telling.proofs.CellLemmas.{cells_over}
use Rattle.cn_join_find.proofs.connect.connect.Goals as goal

pub stocks_within-requires-clause-known : goal.stocks_within-requires-clause-known
stocks_within-requires-clause-known c = subst (λ (k : ℕ). IsKnown k c.args.stock.now) (sym c.operations.ensures.number) c.requires.known

pub cell_ends-requires : goal.cell_ends-requires
cell_ends-requires c =
    let t = c.args.table.now in
    let are = c.in_ok-stocks.ensures in
    subst (AreCellsOver t) (sym c.as_slice.ensures.value) (cells_over t c.args.stock.now are.0 c.in_ok-stocks.stocks.items are.1 are.2 c.requires.known)

pub connect_within-requires-clause-cells : goal.connect_within-requires-clause-cells
connect_within-requires-clause-cells c =
    let t = c.args.table.now in
    let are = c.in_ok-stocks.ensures in
    let stocks = c.in_ok-stocks.stocks.items in
    let first : c.as_slice.result.now ≡ stocks = c.as_slice.ensures.value in
    let second : c.as_slice-2.result.now ≡ stocks = c.as_slice-2.ensures.value in
    let third : c.as_slice-3.result.now ≡ c.in_ok-ends.ends.items = c.as_slice-3.ensures.value in
    record {
      over = subst (AreCellsOver t) (sym second) (cells_over t c.args.stock.now are.0 stocks are.1 are.2 c.requires.known);
      count = rw (third, second) (rw first at c.in_ok-ends.ensures.count);
      ends = subst (λ (list : List Stock). AreEndsOf t list c.as_slice-3.result.now) (sym second)
          (subst (λ (ends : List Ends). AreEndsOf t stocks ends) (sym third) (subst (λ (list : List Stock). AreEndsOf t list c.in_ok-ends.ends.items) first c.in_ok-ends.ensures.ends));
    }

pub connect_within-requires-clause-stock : goal.connect_within-requires-clause-stock
connect_within-requires-clause-stock c = subst (AreCellsOf c.args.stock.now) (sym c.as_slice-2.ensures.value) c.in_ok-stocks.ensures
