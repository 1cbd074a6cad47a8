use Rattle.std.proofs.Common.{false, inl, inr, refl, subst}
use Rattle.std.proofs.lemmas.Result.{err_from_is_err_and}
use Rattle.cn_table.specs.TypeTable.{TypeTable}
use Rattle.cn_app.specs.Commands.FindShortest.{IsPlanFoundReport}
use Rattle.cn_app.proofs.ReportLemmas.ShortestPlans.{plan_is_of}
use Rattle.cn_app.proofs.reports.find_shortest.find_shortest_report.Goals as goal

pub returns-in_err-plan : goal.returns-in_err-plan
returns-in_err-plan c =
    let p = err_from_is_err_and c.from_residual.result c.from_residual.ensures.1 in
    rw (p.1, p.2) (inl (c.in_err-plan.field-0.0, c.in_err-plan.ensures, refl))

pub returns : goal.returns
returns c =
    let plan = c.in_ok-plan.plan in
    inr (plan, c.in_ok-plan.ensures, subst (λ (t : TypeTable). IsPlanFoundReport t plan c.plan_report.result) (plan_is_of c.args.table.now (record { processes = c.args.processes; without_read = false }) plan c.in_ok-plan.ensures) c.plan_report.ensures)
