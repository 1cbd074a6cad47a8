use Rattle.std.proofs.Common.{ℕ, List, arith, length, subst}
use Rattle.cn_stocks.specs.Reach.{AreShown}
use Rattle.cn_stocks.proofs.StockLemmas.{items_within, stock_at}
use Rattle.cn_stocks.proofs.EachLemmas.{each_read}
use Rattle.cn_divisions.proofs.levels.Setting.less_shown.Goals as goal

pub index-requires : goal.index-requires
index-requires c =
    let s = c.args.self.now in
    let level = s.level.now in
    let h = c.requires.setting.stock_is.smaller.some c.args.operation c.in-Some.place c.in-Some.is in
    omega (arith, items_within level.stocks.list.items c.in-Some.place h.0 h.1, c.requires.setting.level_is.shown.0, level.shown.ok.0)

pub returns-in-Some : goal.returns-in-Some
returns-in-Some c =
    let s = c.args.self.now in
    let level = s.level.now in
    let h = c.requires.setting.stock_is.smaller.some c.args.operation c.in-Some.place c.in-Some.is in
    let stock = stock_at level.stocks.list.items c.in-Some.place h.0 h.1 in
    let shown = each_read _ level.shown.items (length level.stocks.list.items) c.in-Some.place c.index.result.now c.requires.setting.level_is.shown (items_within level.stocks.list.items c.in-Some.place h.0 h.1) c.index.ensures stock.0 stock.1 in
    (h.0, h.2, subst (λ (items : List ℕ). AreShown s.table.now items c.index.result.now.pairs.items) stock.2 shown)
