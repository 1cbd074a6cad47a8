use Rattle.std.proofs.Common.{ℕ, ap, arith, length}
use Rattle.cn_stocks.specs.declared.stocks.Stock.{Stock}
use Rattle.cn_stocks.proofs.StockLemmas.{items_within}
use Rattle.cn_stocks.proofs.Zips.{zip_long}
use Rattle.cn_telling.specs.Levels.{AreStarts}
use Rattle.cn_join_find.proofs.likely.likely_starts.Goals as goal

pub bounds-starts-place : goal.bounds-starts-place
bounds-starts-place c =
    let level = c.args.below.now in
    let fit : Stock → ℕ → Type 0 = λ stock starts. AreStarts c.args.table.now stock.operations.items starts in
    let h = c.requires.stock_is.smaller.some c.loop-operation.operation c.in-Some.place c.in-Some.is in
    omega (arith, items_within level.stocks.list.items c.in-Some.place h.0 h.1, zip_long fit level.stocks.list.items level.starts.items c.requires.level_is.starts, ap length c.as_slice-starts.ensures.value)
