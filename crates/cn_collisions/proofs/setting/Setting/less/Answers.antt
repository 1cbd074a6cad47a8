use Rattle.std.proofs.Common.{ℕ, List, ◌-◌, arith, length, subst}
use Rattle.cn_stocks.proofs.StockLemmas.{items_within, stock_at}
use Rattle.cn_stocks.proofs.EachLemmas.{each_read}
use Rattle.cn_collisions.proofs.ExactWords.{has_some}
use Rattle.cn_collisions.proofs.setting.Setting.less.Goals as goal

pub bounds-sets-place : goal.bounds-sets-place
bounds-sets-place g c =
    let is = c.requires.setting in
    let h = is.stock_is.smaller.some c.args.operation c.in-Some.place c.in-Some.is in
    omega (arith, items_within is.before c.in-Some.place h.0 h.1, is.sets_are.0)

pub returns-in-Some : goal.returns-in-Some
returns-in-Some g c =
    let s = c.args.self.now in
    let is = c.requires.setting in
    let h = is.stock_is.smaller.some c.args.operation c.in-Some.place c.in-Some.is in
    let stock = stock_at is.before c.in-Some.place h.0 h.1 in
    let sets = each_read _ c.args.sets.now (length is.before) c.in-Some.place c.index-sets-place.result is.sets_are
    (items_within is.before c.in-Some.place h.0 h.1) c.index-sets-place.is stock.0 stock.1 in (
      omega (arith, has_some c.args.operation s.stock.now.operations.items h.0 h.2, is.long),
      (h.0, h.2, subst (λ (items : List ℕ). g.E.StockSets.fits s.table.now (s.size - 1) items c.index-sets-place.result) stock.2 sets),
    )

pub returns-in-None : goal.returns-in-None
returns-in-None g c = c.requires.setting.stock_is.smaller.none c.args.operation c.in-None.is
