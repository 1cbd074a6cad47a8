use Rattle.cn_shortest.specs.Looks.{allowed}
use Rattle.cn_shortest.proofs.least.least_cost.Goals as goal

pub returns : goal.returns
returns c = c.cost_in.ensures.cost c.args.table.now (allowed c.args.looks) c.in_ok-found.ensures.roots
