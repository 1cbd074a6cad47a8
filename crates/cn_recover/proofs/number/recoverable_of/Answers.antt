use Rattle.std.proofs.Common.{subst}
use Rattle.cn_search.specs.Numbers.{HasNumber}
use Rattle.cn_recover.proofs.number.recoverable_of.Goals as goal

pub returns-in-Infinite : goal.returns-in-Infinite
returns-in-Infinite g c =
    let t = c.args.table.now in (c.no_greatest_together.ensures t).1 (subst (HasNumber t) c.in-Infinite.is c.requires)
