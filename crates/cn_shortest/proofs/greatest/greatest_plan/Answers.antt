use Rattle.cn_shortest.specs.Looks.{allowed}
use Rattle.cn_shortest.proofs.MostProcesses.{none_at_all, plan_for}
use Rattle.cn_shortest.proofs.greatest.greatest_plan.Goals as goal

pub returns-in_default : goal.returns-in_default
returns-in_default c =
    none_at_all c.args.table.now (allowed c.args.looks) c.args.most c.greatest_in.result c.in_default.is (c.greatest_in.ensures.cost c.args.table.now (allowed c.args.looks) c.in_ok-found.ensures.roots)

pub returns : goal.returns
returns c =
    let t = c.args.table.now in
    let looks = c.args.looks in
    let found = c.in-Some.greatest in
    let is = c.in-Some.ensures.cost t (allowed looks) c.in_ok-found.ensures.roots in
    let load = c.in-Some.ensures.load in
    plan_for t (allowed looks) c.args.most found c.in_ok-plan.plan is (c.in_ok-plan.ensures (record { nodes = found.1.nodes; sum = found.1.sum }) load.3 (is.tree, is.least, is.cost_is))
