use Rattle.std.proofs.Common.{List, All, subst, sym}
use Rattle.cn_stocks.specs.declared.stocks.Stock.{Stock}
use Rattle.cn_telling.specs.Levels.{AreAllEnds, IsNext}
use Rattle.cn_telling.proofs.LevelLemmas.{all_next}
use Rattle.cn_telling.proofs.search.Search.into_level.Goals as goal

pub all_ends-requires-after_bounds : goal.all_ends-requires-after_bounds
all_ends-requires-after_bounds g c κs within =
    let s = c.args.self in
    let t = c.args.table.now in
    subst (λ (list : List Stock). All (IsNext t s.below) list) (sym c.as_slice-here.ensures.value)
    (all_next t s.below s.stocks.list.items c.requires.below c.requires.stocks.stocks)

pub returns-clause-level : goal.returns-clause-level
returns-clause-level g c =
    let t = c.args.table.now in record {
      level_is = record {
        starts = c.requires.starts;
        ends = subst (λ (list : List Stock). AreAllEnds t list c.in_ok-ends.ends.items) c.as_slice-here.ensures.value c.in_ok-ends.ensures;
      };
      all = (c.args.self.below.stocks.list.items, c.requires.stocks);
    }
