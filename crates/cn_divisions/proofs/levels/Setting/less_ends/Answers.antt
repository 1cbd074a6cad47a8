use Rattle.std.proofs.Common.{ℕ, List, arith, length, subst}
use Rattle.cn_stocks.specs.Reach.{AreEnds}
use Rattle.cn_stocks.proofs.StockLemmas.{items_within, stock_at}
use Rattle.cn_stocks.proofs.EachLemmas.{each_read}
use Rattle.cn_divisions.proofs.levels.Setting.less_ends.Goals as goal

pub index-requires : goal.index-requires
index-requires c =
    let s = c.args.self.now in
    let level = s.level.now in
    let is = c.requires.setting in
    let h = is.stock_is.smaller.some c.args.operation c.in-Some.place c.in-Some.is in
    omega (arith, items_within level.stocks.list.items c.in-Some.place h.0 h.1, is.level_is.ends.0, level.ends.ok.0)

pub returns-in-Some : goal.returns-in-Some
returns-in-Some c =
    let s = c.args.self.now in
    let level = s.level.now in
    let is = c.requires.setting in
    let h = is.stock_is.smaller.some c.args.operation c.in-Some.place c.in-Some.is in
    let stock = stock_at level.stocks.list.items c.in-Some.place h.0 h.1 in
    let ends = each_read _ level.ends.items (length level.stocks.list.items) c.in-Some.place c.index.result.now is.level_is.ends (items_within level.stocks.list.items c.in-Some.place h.0 h.1) c.index.ensures stock.0 stock.1 in
    (h.0, h.2, subst (λ (items : List ℕ). AreEnds s.table.now items (length s.table.now.states) c.index.result.now.states) stock.2 ends)

pub returns-in-None : goal.returns-in-None
returns-in-None c = c.requires.setting.stock_is.smaller.none c.args.operation c.in-None.is
