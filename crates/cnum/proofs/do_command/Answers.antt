use Rattle.std.proofs.Common.{sym}
use Rattle.cnum.proofs.do_command.Goals as goal

pub returns-in-Classify : goal.returns-in-Classify
returns-in-Classify g c = rw c.in-Classify.is (
  c.classify-first.result,
  c.args.faults.now,
  c.classify-first.new.faults,
  rw (sym c.deref.ensures.value) c.classify-first.ensures,
  c.classify_exit.ensures,
)

pub returns-in-OfTable : goal.returns-in-OfTable
returns-in-OfTable g c = rw c.in-OfTable.is (c.run-end.result, c.run-end.ensures, c.command_exit.ensures)

pub returns-in-Lives : goal.returns-in-Lives
returns-in-Lives g c =
    rw c.in-Lives.is (c.run_lives-end.result, c.run_lives-end.ensures, c.command_exit-in-Lives.ensures)

pub returns-in-ShortestRun : goal.returns-in-ShortestRun
returns-in-ShortestRun g c =
    rw c.in-ShortestRun.is c.do_shortest_run.ensures

pub returns-in-ShortestPlan : goal.returns-in-ShortestPlan
returns-in-ShortestPlan g c =
    rw c.in-ShortestPlan.is c.do_shortest_plan.ensures

pub returns-in-RecoverablePlan : goal.returns-in-RecoverablePlan
returns-in-RecoverablePlan g c =
    rw c.in-RecoverablePlan.is c.do_recoverable_plan.ensures
