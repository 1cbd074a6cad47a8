use Rattle.std.proofs.Common.{ℕ, subst, sym}
use Rattle.cn_app.specs.Commands.ShortestCost.{IsShortestCost}
use Rattle.cn_app.proofs.ReportLemmas.ShortestPlans.{cost_found, no_cost_found}
use Rattle.cn_app.proofs.reports.shortest_cost.shortest_cost.Goals as goal

pub returns-in-Some : goal.returns-in-Some
returns-in-Some c =
    let most = c.in-Some.most in
    subst (λ (objects : ℕ). IsShortestCost c.args.table.now (record { processes = most.0; steps = most.1.steps; objects = objects })) (sym c.from.ensures)
    (cost_found c.args.table.now c.in_ok-found.found most c.in-Some.is c.in_ok-found.ensures)

pub returns-in-None : goal.returns-in-None
returns-in-None c = no_cost_found c.args.table.now c.in_ok-found.found c.in-None.is c.in_ok-found.ensures
