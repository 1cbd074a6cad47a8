use Rattle.std.proofs.Common.{ℕ, ◌+◌, List, All, subst, sym}
use Rattle.cn_stocks.specs.declared.stocks.Stock.{Stock}
use Rattle.cn_stocks.specs.Stocks.{AreAll}
use Rattle.cn_telling.specs.Levels.{AreAllStarts, IsNext}
use Rattle.cn_telling.proofs.LevelLemmas.{all_next}
use Rattle.cn_telling.proofs.search.Search.next.Goals as goal

pub all_starts-requires-after_bounds : goal.all_starts-requires-after_bounds
all_starts-requires-after_bounds g c κs within =
    let t = c.args.table.now in
    let below = c.in_ok-below.below in
    let stocks = subst (λ (k : ℕ). AreAll k (c.args.n + 1) below.stocks.list.items c.in_ok-stocks.stocks) c.operations.ensures.number c.in_ok-stocks.ensures in
    subst (λ (list : List Stock). All (IsNext t below) list) (sym c.as_slice-list.ensures.value)
    (all_next t below c.in_ok-stocks.stocks.list.items c.in_ok-below.ensures.level.level_is stocks.stocks)

pub returns-clause-search : goal.returns-clause-search
returns-clause-search g c =
    let t = c.args.table.now in
    let below = c.in_ok-below.below in record {
      below = c.in_ok-below.ensures.level.level_is;
      stocks = subst (λ (k : ℕ). AreAll k (c.args.n + 1) below.stocks.list.items c.in_ok-stocks.stocks) c.operations.ensures.number c.in_ok-stocks.ensures;
      starts = subst (λ (list : List Stock). AreAllStarts t list c.in_ok-starts.starts.items) c.as_slice-list.ensures.value c.in_ok-starts.ensures;
    }
