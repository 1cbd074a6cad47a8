use Rattle.std.proofs.Common.{List, ℕ, ap, take_all, ◌∙◌}
use Rattle.cn_trees.specs.Steps.{after_schedule}
use Rattle.cn_tree_plans.specs.Plan.{tree_of}
use Rattle.cn_tree_rounds.specs.Worlds.{world_of}
use Rattle.cn_tree_rounds.proofs.Schedules.{one_more_step}
use Rattle.cn_tree_rounds.proofs.schedule.step_all.Goals as goal

pub loop-process-preserved : goal.loop-process-preserved
loop-process-preserved c = record {
  of_plan = c.step.ensures.of_plan;
  run = one_more_step (tree_of c.args.plan.now) c.args.schedule.now c.loop-process.process-index (world_of c.args.plan.now c.args.world.now) (world_of c.args.plan.now c.loop-process.world)
      (world_of c.args.plan.now c.step.new.self) c.loop-process-test.true c.step.ensures.world c.loop-process.invariant.run;
}

pub returns-clause-world : goal.returns-clause-world
returns-clause-world c =
    c.loop-process.invariant.run
    ∙ ap (λ (s : List ℕ). after_schedule (tree_of c.args.plan.now) s (world_of c.args.plan.now c.args.world.now)) (take_all c.loop-process.process-index c.args.schedule.now c.loop-process-test.false)
