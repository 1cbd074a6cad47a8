use Rattle.std.proofs.Common.{List, All, subst, sym}
use Rattle.cn_stocks.specs.declared.stocks.Stock.{Stock}
use Rattle.cn_stocks.specs.Levels.{AreAllEnds, AreAllShown, IsNext, IsSomeNext}
use Rattle.cn_stocks.proofs.Decisions.{all_next, all_some_next}
use Rattle.cn_stocks.proofs.search.Search.into_level.Goals as goal

pub all_ends-requires-after_bounds : goal.all_ends-requires-after_bounds
all_ends-requires-after_bounds g c κs within =
    let s = c.args.self in
    let t = c.args.table.now in
    subst (λ (list : List Stock). All (IsSomeNext t s.below) list) (sym c.as_slice-here.ensures.value)
    (all_some_next s.question t s.below s.stocks.list.items (all_next s.question t s.below s.stocks.list.items c.requires.below c.requires.stocks.stocks))

pub shown_for-requires-after_bounds : goal.shown_for-requires-after_bounds
shown_for-requires-after_bounds g c κs within =
    let s = c.args.self in
    let t = c.args.table.now in
    subst (λ (list : List Stock). All (IsNext s.question t s.below) list) (sym c.as_slice-here.ensures.value)
    (all_next s.question t s.below s.stocks.list.items c.requires.below c.requires.stocks.stocks)

pub returns : goal.returns
returns g c =
    let t = c.args.table.now in record {
      level_is = record {
        starts = c.requires.starts;
        ends = subst (λ (list : List Stock). AreAllEnds t list c.in_ok-ends.ends.items) c.as_slice-here.ensures.value c.in_ok-ends.ensures;
        shown = λ e. subst (λ (list : List Stock). AreAllShown t list c.in_ok-shown.shown.items) c.as_slice-here.ensures.value (c.in_ok-shown.ensures e);
      };
      all = (c.args.self.below.stocks.list.items, c.requires.stocks);
    }
