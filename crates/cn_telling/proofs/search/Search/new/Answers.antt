use Rattle.std.proofs.Common.{ℕ, List, [], All, length, subst, sym}
use Rattle.cn_stocks.specs.declared.stocks.Stock.{Stock}
use Rattle.cn_stocks.specs.Stocks.{AreAll}
use Rattle.cn_telling.specs.Levels.{AreAllStarts, IsNext}
use Rattle.cn_telling.proofs.LevelLemmas.{all_next, no_level_is}
use Rattle.cn_telling.proofs.search.Search.new.Goals as goal

pub all_starts-requires-after_bounds : goal.all_starts-requires-after_bounds
all_starts-requires-after_bounds g c κs within =
    let t = c.args.table.now in
    let below = c.no_level-below.result in
    let none = c.no_level-below.ensures in
    let stocks = subst (λ (k : ℕ). AreAll k 0 [] c.in_ok-stocks.stocks) c.operations.ensures.number c.in_ok-stocks.ensures in
    let over = subst (λ (before : List Stock). AreAll (length t.operations) 0 before c.in_ok-stocks.stocks) (sym none.stocks) stocks in
    subst (λ (list : List Stock). All (IsNext t below) list) (sym c.as_slice-list.ensures.value)
    (all_next t below c.in_ok-stocks.stocks.list.items (no_level_is t below none.stocks none.starts none.ends) over.stocks)

pub returns : goal.returns
returns g c =
    let t = c.args.table.now in
    let below = c.no_level-below.result in
    let none = c.no_level-below.ensures in
    let stocks = subst (λ (k : ℕ). AreAll k 0 [] c.in_ok-stocks.stocks) c.operations.ensures.number c.in_ok-stocks.ensures in record {
      below = no_level_is t below none.stocks none.starts none.ends;
      stocks = subst (λ (before : List Stock). AreAll (length t.operations) 0 before c.in_ok-stocks.stocks) (sym none.stocks) stocks;
      starts = subst (λ (list : List Stock). AreAllStarts t list c.in_ok-starts.starts.items) c.as_slice-list.ensures.value c.in_ok-starts.ensures;
    }
