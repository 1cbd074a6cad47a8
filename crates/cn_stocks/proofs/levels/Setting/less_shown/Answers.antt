use Rattle.std.proofs.Common.{ℕ, List, arith, refl, subst}
use Rattle.cn_stocks.specs.declared.stocks.Stock.{Stock}
use Rattle.cn_stocks.specs.declared.word_sets.Shown.{Shown}
use Rattle.cn_stocks.specs.Reach.{AreShown}
use Rattle.cn_stocks.proofs.StockLemmas.{items_within, stock_at}
use Rattle.cn_stocks.proofs.Zips.{zip_long, zip_read}
use Rattle.cn_stocks.proofs.levels.Setting.less_shown.Goals as goal

pub index-requires : goal.index-requires
index-requires c =
    let s = c.args.self.now in
    let level = s.level.now in
    let fit : Stock → Shown → Type 0 = λ stock shown. AreShown s.table.now stock.operations.items shown.pairs.items in
    let h = c.requires.setting.stock_is.smaller.some c.args.operation c.in-Some.place c.in-Some.is in
    omega (arith, items_within level.stocks.list.items c.in-Some.place h.0 h.1, zip_long fit level.stocks.list.items level.shown.items (c.requires.setting.level_is.shown refl), level.shown.ok.0)

pub returns-in-Some : goal.returns-in-Some
returns-in-Some c =
    let s = c.args.self.now in
    let level = s.level.now in
    let fit : Stock → Shown → Type 0 = λ stock shown. AreShown s.table.now stock.operations.items shown.pairs.items in
    let h = c.requires.setting.stock_is.smaller.some c.args.operation c.in-Some.place c.in-Some.is in
    let stock = stock_at level.stocks.list.items c.in-Some.place h.0 h.1 in
    let shown = zip_read fit level.stocks.list.items level.shown.items (c.requires.setting.level_is.shown refl) c.in-Some.place stock.0 c.index.result.now stock.1 c.index.ensures in
    (h.0, h.2, subst (λ (items : List ℕ). AreShown s.table.now items c.index.result.now.pairs.items) stock.2 shown)
