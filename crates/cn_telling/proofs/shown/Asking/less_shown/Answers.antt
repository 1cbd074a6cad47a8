use Rattle.std.proofs.Common.{ℕ, List, [], get_or, subst}
use Rattle.std.proofs.lemmas.Option.{slice_get-get_or}
use Rattle.cn_stocks.specs.Reach.{ArePairsTo}
use Rattle.cn_stocks.proofs.StockLemmas.{stock_at}
use Rattle.cn_telling.specs.declared.shown.Shown.{Shown}
use Rattle.cn_telling.proofs.shown.Asking.less_shown.Goals as goal

pub returns-in-Some : goal.returns-in-Some
returns-in-Some c =
    let a = c.args.self.now in
    let place = c.in-Some.place in
    let is = c.requires.asking in
    let h = is.over.stock_is.smaller.some c.args.operation place c.in-Some.is in
    let stock = stock_at is.before place h.0 h.1 in
    let none : Shown = record { pairs = [] } in
    let here = get_or a.shown.now place none in
    let pairs = is.shown_are place stock.0 here stock.1 (slice_get-get_or a.shown.now place none (is.within c.args.operation place c.in-Some.is)) in
    (h.0, h.2, subst (λ (items : List ℕ). ArePairsTo a.setting.table.now items a.asked here.pairs) stock.2 pairs)

pub returns-in-None : goal.returns-in-None
returns-in-None c = c.requires.asking.over.stock_is.smaller.none c.args.operation c.in-None.is
