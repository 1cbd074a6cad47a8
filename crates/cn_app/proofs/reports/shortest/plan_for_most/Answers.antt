use Rattle.std.proofs.Common.{inr, refl}
use Rattle.cn_app.proofs.ReportLemmas.ShortestPlans.{most_found, none_found}
use Rattle.cn_app.proofs.reports.shortest.plan_for_most.Goals as goal

pub returns-in-Some : goal.returns-in-Some
returns-in-Some c = most_found c.args.table.now c.args.looks c.in_ok-found.found c.in-Some.plan c.in-Some.is c.in_ok-found.ensures

pub returns-in-None : goal.returns-in-None
returns-in-None c = inr (refl, none_found c.args.table.now c.args.looks c.in_ok-found.found c.in-None.is c.in_ok-found.ensures)
