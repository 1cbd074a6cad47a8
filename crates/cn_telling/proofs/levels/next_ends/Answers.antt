use Rattle.std.proofs.Common.{List, subst, sym}
use Rattle.cn_telling.specs.declared.ends.Ends.{Ends}
use Rattle.cn_telling.specs.Settings.{IsOver}
use Rattle.cn_telling.proofs.LevelLemmas.{over_level}
use Rattle.cn_telling.proofs.levels.next_ends.Goals as goal

pub stock_ends-requires : goal.stock_ends-requires
stock_ends-requires c =
    let level = c.args.level.now in (
      level.stocks.list.items,
      subst (λ (ends : List Ends). IsOver c.args.table.now level.stocks.list.items ends c.args.stock.now) (sym c.as_slice.ensures.value)
          (over_level c.args.table.now level c.args.stock.now c.requires),
    )
