use Rattle.cn_shortest.specs.Looks.{allowed}
use Rattle.cn_shortest.proofs.Plans.{none_found, some_found}
use Rattle.cn_shortest.proofs.plan.shortest_plan.Goals as goal

pub returns-in_default : goal.returns-in_default
returns-in_default c = none_found c.args.table.now (allowed c.args.looks) c.args.n c.cost_in.result c.in_default.is (c.cost_in.ensures.cost c.args.table.now (allowed c.args.looks) c.in_ok-found.ensures.roots)

pub returns : goal.returns
returns c =
    let cost = c.in-Some.cost in
    let least = c.in-Some.ensures.cost c.args.table.now (allowed c.args.looks) c.in_ok-found.ensures.roots in
    some_found c.args.table.now (allowed c.args.looks) c.args.n c.in_ok-plan.plan (c.in_ok-plan.ensures (record { nodes = cost.nodes; sum = cost.sum }) c.in-Some.ensures.load.1 least.plan)
