use Rattle.std.proofs.Common.{◌∙◌, ap, sym}
use Rattle.cn_proto.specs.Plan.{processes_of}
use Rattle.cn_agree.proofs.Running.{no_stranger}
use Rattle.cn_lives.specs.Lives.{world_of}
use Rattle.cn_lives.specs.Schedules.{named}
use Rattle.cn_lives.proofs.Fitting.{fits}
use Rattle.cn_lives.proofs.Running.{all_named}
use Rattle.cn_lives.proofs.course.run_life_steps.Goals as goal

pub record_all-requires-clause-schedule : goal.record_all-requires-clause-schedule
record_all-requires-clause-schedule c =
    let n = processes_of c.args.plan.now.plan in
    let s = c.args.schedule.now in
    all_named n s (no_stranger n c.args.inputs.now (named s) c.in_ok-lives.ensures.run)

pub decisions_of-requires : goal.decisions_of-requires
decisions_of-requires c =
    let laws = c.recording_plans_are_sound.ensures in
    let lives = c.record_all.ensures.of_plan in
    let h = fits c.args.plan.now laws.plan.is_plan laws.sound lives.0
    (world_of c.record_all.new.lives) lives.1 in
    c.processes.ensures.number ∙ (ap processes_of c.plan.ensures ∙ sym h.locals_are)
