use Rattle.std.proofs.Common.{◌≡◌, take}
use Rattle.cn_trees.specs.Steps.{after_schedule}
use Rattle.cn_tree_plans.specs.Plan.{tree_of}
use Rattle.cn_tree_rounds.specs.Worlds.{IsOfPlan, world_of}
use Rattle.cn_tree_rounds.proofs.schedule.step_all.Given as goal

abbrev pub invariant-loop-process : goal.invariant-loop-process
invariant-loop-process l = record {
  of_plan : IsOfPlan l.plan l.world;
  run : world_of l.plan l.world ≡ after_schedule (tree_of l.plan) (take l.process-index l.schedule) (world_of l.plan l.fn.world);
}
