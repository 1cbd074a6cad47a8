use Rattle.std.proofs.Common.{Some, ℕ, ◌≡◌, ◌+◌, ◌<◌, ◌∙◌, List, [], ◌∷◌, ap, arith, length, refl, subst, sym}
use Rattle.std.specs.Prelude.{slice_get}
use Rattle.std.specs.Option.{option_map}
use Rattle.cn_stocks.specs.declared.stocks.Stock.{Stock}
use Rattle.cn_stocks.specs.Stocks.{IsStock, items_at}
use Rattle.cn_stocks.proofs.StockLemmas.{get_before}
use Rattle.cn_telling.specs.Cells.{IsUnderway}
use Rattle.cn_telling.proofs.CellLemmas.{underway_push}
use Rattle.cn_telling.proofs.cells.Block.add_to.Goals as goal

pub loop-place-init : goal.loop-place-init
loop-place-init c = record { underway = c.requires.underway; kept = λ i l. refl }

pub next-stock-requires-clause-short : goal.next-stock-requires-clause-short
next-stock-requires-clause-short c items at =
    let is = c.requires.underway in
    let k = c.loop-place.place in
    let inside : k < length c.args.list.now.items = omega (arith, c.loop-place-test.true, c.in_ok-end.ensures, c.len.ensures, c.args.list.now.ok.0) in
    let there = subst (λ (list : List Stock). items_at list k ≡ Some items) c.as_slice.ensures.value at in
    c.requires.short k items (sym (ap (option_map (λ (s : Stock). s.operations.items)) (c.loop-place.invariant.kept k inside)) ∙ there)

pub loop-place-preserved : goal.loop-place-preserved
loop-place-preserved c =
    let i = c.loop-place.invariant in
    let b = c.args.self.now in
    let k = c.loop-place.place in
    let now = c.loop-place.list.items in
    let stock = c.next-stock.result in
    let pushed = c.in_ok-push.ensures.items in
    let slice = c.as_slice.ensures.value in
    let inside : k < b.first + b.size = omega (arith, c.loop-place-test.true, c.in_ok-end.ensures, c.len.ensures, c.args.list.now.ok.0, c.requires.underway.long) in
    record {
      underway = subst (IsUnderway b (k + 1)) (sym pushed) (underway_push b k now stock i.underway inside
          (subst (λ (list : List Stock). IsStock 8 list stock) slice c.next-stock.ensures.stock)
          (λ items at. c.next-stock.ensures.items items (subst (λ (list : List Stock). items_at list k ≡ Some items) (sym slice) at)) c.next-stock.ensures.places);
      kept = λ j l. (
          let room : j < length now = omega (arith, l, i.underway.long, i.underway.from, c.requires.underway.long) in
          ap (λ (list : List Stock). slice_get list j) pushed ∙ (get_before now (stock ∷ []) j room ∙ i.kept j l));
    }

pub returns-clause-all : goal.returns-clause-all
returns-clause-all c =
    let b = c.args.self.now in
    let e : c.loop-place.place ≡ b.first + b.size = omega (arith, c.loop-place-test.false, c.loop-place.auto.place-end, c.in_ok-end.ensures, c.len.ensures, c.args.list.now.ok.0, c.requires.underway.long) in
    subst (λ (place : ℕ). IsUnderway b place c.loop-place.list.items) e c.loop-place.invariant.underway

pub returns-clause-kept : goal.returns-clause-kept
returns-clause-kept c = c.loop-place.invariant.kept
