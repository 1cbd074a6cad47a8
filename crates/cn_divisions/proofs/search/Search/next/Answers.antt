use Rattle.std.proofs.Common.{ℕ, ◌≡◌, ◌+◌, List, length, slice_get, Some, subst}
use Rattle.cn_stocks.specs.declared.stocks.Stock.{Stock}
use Rattle.cn_stocks.specs.Stocks.{AreAll}
use Rattle.cn_divisions.specs.Levels.{AreAllEnds, AreAllShown}
use Rattle.cn_divisions.proofs.search.Search.next.Goals as goal

pub all_ends-requires : goal.all_ends-requires
all_ends-requires c i s e = record {
  level_is = c.requires.search.level;
  stock_is = c.requires.search.all.stocks i s (subst (λ (list : List Stock). slice_get list i ≡ Some s) c.as_slice-list.ensures.value e);
}

pub all_shown-requires : goal.all_shown-requires
all_shown-requires c i s e = record {
  level_is = c.requires.search.level;
  stock_is = c.requires.search.all.stocks i s (subst (λ (list : List Stock). slice_get list i ≡ Some s) c.as_slice-list.ensures.value e);
}

pub returns-clause-search : goal.returns-clause-search
returns-clause-search c =
    let t = c.args.table.now in
    let list = c.args.self.stocks.list.items in
    record {
      level = record {
        ends = subst (λ (stocks : List Stock). AreAllEnds t stocks (length stocks) c.in_ok-ends.ends.items) c.as_slice-list.ensures.value c.in_ok-ends.ensures;
        shown = subst (λ (stocks : List Stock). AreAllShown t stocks (length stocks) c.in_ok-shown.shown.items) c.as_slice-list.ensures.value c.in_ok-shown.ensures;
      };
      all = subst (λ (k : ℕ). AreAll k (c.args.n + 1) list c.in_ok-stocks.stocks) c.operations.ensures.number c.in_ok-stocks.ensures;
    }
