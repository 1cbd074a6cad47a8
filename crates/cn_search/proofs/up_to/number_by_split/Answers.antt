use Rattle.std.proofs.Common.{arith}
use Rattle.cn_search.proofs.up_to.number_by_split.Goals as goal

pub returns : goal.returns
returns g c = c.greatest_of.ensures c.args.table.now c.args.most (omega (arith, c.requires.some)) c.requires.found c.in_ok-two.ensures.decided
