use Rattle.std.proofs.Common.{ℕ, ◌∙◌, List, Some, false, ap, arith, subst}
use Rattle.std.proofs.lemmas.Option.{slice_get-get_or}
use Rattle.cn_joins.specs.Joins.{Connect}
use Rattle.cn_stocks.proofs.StockLemmas.{items_within, stock_at}
use Rattle.cn_telling.specs.Rows.{RowsDiffer}
use Rattle.cn_join_find.proofs.MarkLemmas.{rows_less}
use Rattle.cn_join_find.proofs.marks.connected_without.Goals as goal

pub bounds-marks-place : goal.bounds-marks-place
bounds-marks-place c =
    let b = c.args.below.now in
    let above = c.requires.1.1.1 in
    let h = above.is_stock.smaller.some c.loop-operation.operation c.in-Some.place c.in-Some.is in
    omega (arith, items_within b.stocks.now c.in-Some.place h.0 h.1, above.marks.count)

pub returns-then-not-is_marked-clause-range : goal.returns-then-not-is_marked-clause-range
returns-then-not-is_marked-clause-range c = (omega (arith, c.loop-operation.auto.operation), c.loop-operation-test.true)

pub returns-then-not-is_marked-clause-connected : goal.returns-then-not-is_marked-clause-connected
returns-then-not-is_marked-clause-connected c t start joins above =
    let b = c.args.below.now in
    let place = c.in-Some.place in
    let h = above.is_stock.smaller.some c.loop-operation.operation place c.in-Some.is in
    let s = stock_at b.stocks.now place h.0 h.1 in
    let inside = items_within b.stocks.now place h.0 h.1 in
    let mark = slice_get-get_or b.marks.now place false (omega (arith, inside, above.marks.count)) ∙ ap Some c.if-not-is_marked.true in
    let connect = subst (λ (l : List ℕ). RowsDiffer t l → Connect joins start l) s.2 (above.marks.connect place s.0 s.1 mark) in
    (h.0, h.2, connect (rows_less t c.loop-operation.operation c.args.stock.now.operations.items h.0 h.2 above.rows_differ))
