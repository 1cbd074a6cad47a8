use Rattle.std.proofs.Common.{inr, subst}
use Rattle.cn_lives.specs.Plans.{IsFirstPlan}
use Rattle.cn_app.proofs.reports.lives.lives_plan.Goals as goal

pub returns-in-Some : goal.returns-in-Some
returns-in-Some g c =
    inr (c.in_ok-processes.processes, c.in_ok-processes.ensures, subst (IsFirstPlan c.args.table.now c.in_ok-processes.processes) c.in-Some.is c.in_ok-plan.ensures)
