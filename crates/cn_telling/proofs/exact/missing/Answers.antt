use Rattle.std.proofs.Common.{ℕ, ◌≡◌, ◌<◌, ◌∙◌, arith, get_or, length, subst, sym, true≢false}
use Rattle.std.specs.Prelude.{IsBitSet}
use Rattle.std.proofs.lemmas.List.{get_or_default}
use Rattle.cn_stocks.specs.declared.stocks.Stock.{Stock}
use Rattle.cn_stocks.proofs.StockLemmas.{items_within}
use Rattle.cn_stocks.proofs.Zips.{zip_long}
use Rattle.cn_telling.specs.Levels.{AreStarts}
use Rattle.cn_telling.proofs.exact.missing.Goals as goal

pub index-requires : goal.index-requires
index-requires c =
    let level = c.args.level.now in
    let fit : Stock → ℕ → Type 0 = λ stock starts. AreStarts c.args.table.now stock.operations.items starts in
    let h = c.requires.next.stock_is.smaller.some c.loop-operation.operation c.in-Some.place c.in-Some.is in
    omega (arith, items_within level.stocks.list.items c.in-Some.place h.0 h.1, zip_long fit level.stocks.list.items level.starts.items c.requires.next.level_is.starts, level.starts.ok.0)

pub returns-then-not-contains : goal.returns-then-not-contains
returns-then-not-contains c =
    let level = c.args.level.now in
    let starts = level.starts.items in
    let place = c.in-Some.place in
    let fit : Stock → ℕ → Type 0 = λ stock starts. AreStarts c.args.table.now stock.operations.items starts in
    let h = c.requires.next.stock_is.smaller.some c.loop-operation.operation place c.in-Some.is in
    let inside : place < length starts = omega (arith, items_within level.stocks.list.items place h.0 h.1, zip_long fit level.stocks.list.items starts c.requires.next.level_is.starts) in
    let read : c.index.result.now ≡ get_or starts place 0 = c.index.ensures ∙ get_or_default starts place c.index.result.now 0 inside in (
      omega (arith, c.loop-operation.auto.operation),
      c.loop-operation-test.true,
      (
        place,
        c.in-Some.is,
        λ b. true≢false
            (sym (c.contains.ensures.1 (subst (λ (set : ℕ). IsBitSet set c.args.start) (sym read) b)) ∙ c.if-not-contains.true),
      ),
    )
