use Rattle.std.proofs.Common.{arith, ap, ◌∙◌, not}
use Rattle.cn_agree.proofs.PlanRounds.{processes_are}
use Rattle.cn_agree.proofs.Running.{stays_decided, turn_begun, turn_runs}
use Rattle.cn_agree.proofs.schedule.take_turn.Goals as goal

pub decision-requires : goal.decision-requires
decision-requires g c =
    let runs = c.requires.of_plan in
    let many = processes_are c.args.plan.now runs.0 c.args.round.now runs.1 in
    let named = c.requires.process in
    omega arith

pub returns-then-is_none-clause-of_plan : goal.returns-then-is_none-clause-of_plan
returns-then-is_none-clause-of_plan g c =
    turn_runs c.args.plan.now c.args.p c.args.round.now c.step.new.self c.requires.of_plan c.requires.begun c.requires.process c.step.ensures.world

pub returns-then-is_none-clause-begun : goal.returns-then-is_none-clause-begun
returns-then-is_none-clause-begun g c =
    turn_begun c.args.plan.now c.args.p c.args.round.now c.step.new.self c.requires.of_plan c.requires.begun c.requires.process c.step.ensures.world

pub returns-else-is_none-clause-world : goal.returns-else-is_none-clause-world
returns-else-is_none-clause-world g c =
    stays_decided c.args.plan.now c.args.p c.args.round.now c.decision.result (c.is_none.ensures ∙ ap not c.if-is_none.false) c.decision.ensures.value
