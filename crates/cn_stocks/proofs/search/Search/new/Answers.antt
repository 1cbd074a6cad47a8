use Rattle.std.proofs.Common.{ℕ, List, [], All, length, refl, subst, sym}
use Rattle.cn_stocks.specs.declared.stocks.Stock.{Stock}
use Rattle.cn_stocks.specs.Levels.{AreAllStarts, IsNext}
use Rattle.cn_stocks.specs.Stocks.{AreAll}
use Rattle.cn_stocks.proofs.Decisions.{all_next, no_level_is}
use Rattle.cn_stocks.proofs.search.Search.new.Goals as goal

pub all_starts-requires-after_bounds : goal.all_starts-requires-after_bounds
all_starts-requires-after_bounds g c κs within =
    let question = c.args.question in
    let below = c.no_level-below.result in
    let none = c.no_level-below.ensures in
    let stocks = subst (λ (k : ℕ). AreAll k 0 [] c.in_ok-stocks.stocks) c.operations.ensures.number c.in_ok-stocks.ensures in
    let over = subst (λ (before : List Stock). AreAll (length c.args.table.now.operations) 0 before c.in_ok-stocks.stocks) (sym none.stocks) stocks in
    subst (λ (list : List Stock). All (IsNext question c.args.table.now below) list) (sym c.as_slice-list.ensures.value)
    (all_next question c.args.table.now below c.in_ok-stocks.stocks.list.items (no_level_is question c.args.table.now below none.stocks none.starts none.ends none.shown) over.stocks)

pub returns : goal.returns
returns g c =
    let question = c.args.question in
    let below = c.no_level-below.result in
    let none = c.no_level-below.ensures in
    let stocks = subst (λ (k : ℕ). AreAll k 0 [] c.in_ok-stocks.stocks) c.operations.ensures.number c.in_ok-stocks.ensures in (
      refl,
      record {
        below = no_level_is question c.args.table.now below none.stocks none.starts none.ends none.shown;
        stocks = subst (λ (before : List Stock). AreAll (length c.args.table.now.operations) 0 before c.in_ok-stocks.stocks) (sym none.stocks) stocks;
        starts = subst (λ (list : List Stock). AreAllStarts question c.args.table.now list c.in_ok-starts.starts.items) c.as_slice-list.ensures.value c.in_ok-starts.ensures;
      },
    )
