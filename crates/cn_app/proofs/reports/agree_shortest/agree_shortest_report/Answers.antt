use Rattle.std.proofs.Common.{inl, inr, refl, sym, subst}
use Rattle.std.proofs.lemmas.Result.{err_from_is_err_and}
use Rattle.cn_app.specs.Commands.AgreeShortest.{IsTreeRunReport}
use Rattle.cn_app.proofs.reports.agree_shortest.agree_shortest_report.Goals as goal

pub returns-in_err-plan : goal.returns-in_err-plan
returns-in_err-plan c =
    let p = err_from_is_err_and c.from_residual.result c.from_residual.ensures.1 in
    rw (p.1, p.2) (inl (c.in_err-plan.field-0.0, c.in_err-plan.ensures, refl))

pub returns-then-asked : goal.returns-then-asked
returns-then-asked c = inr (c.in_ok-plan.plan, c.in_ok-plan.ensures, subst (λ b. IsTreeRunReport c.in_ok-plan.plan c.args.inputs.now c.args.schedule.now (record { steps = b; form = c.args.asked.form }) c.tree_steps_report.result) (sym c.if-asked.true) c.tree_steps_report.ensures)

pub returns : goal.returns
returns c = inr (c.in_ok-plan.plan, c.in_ok-plan.ensures, subst (λ b. IsTreeRunReport c.in_ok-plan.plan c.args.inputs.now c.args.schedule.now (record { steps = b; form = c.args.asked.form }) c.tree_run_report.result) (sym c.if-asked.false) c.tree_run_report.ensures)
