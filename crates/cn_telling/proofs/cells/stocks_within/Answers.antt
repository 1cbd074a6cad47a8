use Rattle.std.proofs.Common.{ℕ, ◌≡◌, ◌++◌, ◌∙◌, List, [], ◌∷◌, ap, arith, replicate, subst, sym}
use Rattle.cn_stocks.specs.declared.stocks.Stock.{Stock}
use Rattle.cn_stocks.specs.Words.{times}
use Rattle.cn_stocks.proofs.Times.{times_none}
use Rattle.cn_telling.specs.Cells.{AreCells}
use Rattle.cn_telling.proofs.CellLemmas.{below_of, cells_first, done_more, length_more, none_more, same_all, within_count, within_long}
use Rattle.cn_telling.proofs.cells.stocks_within.Goals as goal

pub loop-operation-init : goal.loop-operation-init
loop-operation-init c = record {
  whole = [];
  cells_are = subst (AreCells []) (sym (c.in_ok-push.ensures.items ∙ ap (λ (l : List Stock). l ++ c.empty_stock.result ∷ []) c.new-cells.ensures.items)) (cells_first c.empty_stock.result c.empty_stock.ensures.stock c.empty_stock.ensures.items);
  done = λ o l. absurd (omega (arith, l));
  none = λ o l. times_none o;
}

pub add_operation-requires-clause-cells : goal.add_operation-requires-clause-cells
add_operation-requires-clause-cells c =
    let i = c.loop-operation.invariant in
    let k = c.loop-operation.operation in
    let stock = c.args.stock.now in
    let count = c.count_of-count.result in
    let same : count ≡ times k stock = c.count_of-count.ensures in
    let long = within_long stock (i.whole ++ replicate (times k stock) k) (within_count k stock i.whole i.done i.none) in
    (i.whole, i.cells_are, below_of k i.whole i.none, omega (arith, long, length_more i.whole (times k stock) k, same, c.requires.short))

pub loop-operation-preserved : goal.loop-operation-preserved
loop-operation-preserved c =
    let i = c.loop-operation.invariant in
    let k = c.loop-operation.operation in
    let stock = c.args.stock.now in
    let count = c.count_of-count.result in
    let same : count ≡ times k stock = c.count_of-count.ensures in
    let new = c.add_operation.new.cells.items in
    record {
      whole = i.whole ++ replicate (times k stock) k;
      cells_are = subst (λ (n : ℕ). AreCells (i.whole ++ replicate n k) new) same (c.in_ok-add_operation.ensures i.whole i.cells_are);
      done = done_more k stock i.whole i.done i.none;
      none = none_more k (times k stock) i.whole i.none;
    }

pub returns : goal.returns
returns c =
    let i = c.loop-operation.invariant in
    let end : c.loop-operation.operation ≡ c.args.operations = omega (arith, c.loop-operation-test.false, c.loop-operation.auto.operation-end) in (
      i.whole,
      i.cells_are,
      same_all c.args.operations c.args.stock.now i.whole c.requires.known
          (λ o l. i.done o (omega (arith, l, end))) (λ o l. i.none o (omega (arith, l, end))),
    )
