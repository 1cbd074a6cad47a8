use Rattle.std.proofs.Common.{ℕ, List, [], get_or, length, subst}
use Rattle.std.proofs.lemmas.Option.{slice_get-get_or}
use Rattle.cn_telling.specs.declared.ends.Ends.{Ends}
use Rattle.cn_stocks.specs.Reach.{AreEnds}
use Rattle.cn_stocks.proofs.StockLemmas.{stock_at}
use Rattle.cn_telling.proofs.ends.Setting.less_ends.Goals as goal

pub returns-in-Some : goal.returns-in-Some
returns-in-Some c =
    let s = c.args.self.now in
    let place = c.in-Some.place in
    let is = c.requires.setting.1 in
    let h = is.stock_is.smaller.some c.args.operation place c.in-Some.is in
    let stock = stock_at c.requires.setting.0 place h.0 h.1 in
    let none : Ends = record { states = [] } in
    let here = get_or s.ends.now place none in
    let ends = is.ends_are place stock.0 here stock.1 (slice_get-get_or s.ends.now place none (is.within c.args.operation place c.in-Some.is)) in
    (h.0, h.2, subst (λ (items : List ℕ). AreEnds s.table.now items (length s.table.now.states) here.states) stock.2 ends)

pub returns-in-None : goal.returns-in-None
returns-in-None c = c.requires.setting.1.stock_is.smaller.none c.args.operation c.in-None.is
