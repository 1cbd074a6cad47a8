use Rattle.std.proofs.Common.{◌∙◌, ℕ, List, Option, sym, ap, subst}
use Rattle.cn_proto.specs.Plan.{protocol_of, processes_of}
use Rattle.cn_agree.specs.Consensus.{IsConsensus}
use Rattle.cn_agree.specs.Schedules.{decisions_of}
use Rattle.cn_agree.proofs.Running.{all_have_begun, many_are, no_stranger, right_count, world_is}
use Rattle.cn_agree.proofs.schedule.run_schedule.Goals as goal

pub step_all-requires-clause-begun : goal.step_all-requires-clause-begun
step_all-requires-clause-begun c =
    all_have_begun c.args.plan.now c.args.inputs.now c.in_ok-round.round
    (right_count (processes_of c.args.plan.now) c.args.inputs.now c.args.schedule.now c.in_ok-round.ensures.run) c.in_ok-round.ensures.begun

pub step_all-requires-clause-schedule : goal.step_all-requires-clause-schedule
step_all-requires-clause-schedule c = no_stranger (processes_of c.args.plan.now) c.args.inputs.now c.args.schedule.now c.in_ok-round.ensures.run

pub decisions_of-requires : goal.decisions_of-requires
decisions_of-requires c =
    c.processes.ensures.number ∙ sym (many_are c.args.plan.now c.args.inputs.now c.args.schedule.now c.in_ok-round.round c.step_all.new.round c.in_ok-round.ensures.begun c.step_all.ensures.world)

pub returns-clause-decisions : goal.returns-clause-decisions
returns-clause-decisions c =
    let many = right_count (processes_of c.args.plan.now) c.args.inputs.now c.args.schedule.now c.in_ok-round.ensures.run in
    c.in_ok-decisions_of.ensures ∙ ap decisions_of
    (world_is c.args.plan.now c.args.inputs.now c.args.schedule.now c.in_ok-round.round c.step_all.new.round many c.in_ok-round.ensures.begun c.step_all.ensures.world)

pub returns-clause-consensus : goal.returns-clause-consensus
returns-clause-consensus c =
    let Q : List (Option ℕ) → Type 0 = IsConsensus (protocol_of c.args.plan.now) (processes_of c.args.plan.now) c.args.inputs.now c.args.schedule.now in
    let none = c.in_ok-round.ensures.run in
    subst Q (sym (returns-clause-decisions c))
    (c.schedules_reach_consensus.ensures c.args.inputs.now c.args.schedule.now (right_count (processes_of c.args.plan.now) c.args.inputs.now c.args.schedule.now none)
    (no_stranger (processes_of c.args.plan.now) c.args.inputs.now c.args.schedule.now none))
