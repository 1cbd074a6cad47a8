use Rattle.std.proofs.Common.{◌≡◌, map, take}
use Rattle.std.specs.List.{range_with_len}
use Rattle.cn_trees.specs.Steps.{after_schedule}
use Rattle.cn_tree_plans.specs.Plan.{tree_of}
use Rattle.cn_tree_rounds.specs.Actions.{AreOfTable, record_at}
use Rattle.cn_tree_rounds.specs.Worlds.{IsOfPlan, world_of}
use Rattle.cn_tree_rounds.proofs.schedule.record_all.Given as goal

abbrev pub invariant-loop-process : goal.invariant-loop-process
invariant-loop-process l = record {
  of_plan : IsOfPlan l.plan l.world;
  run : world_of l.plan l.world ≡ after_schedule (tree_of l.plan) (take l.process-index l.schedule) (world_of l.plan l.fn.world);
  records : l.records.items ≡ map (record_at (tree_of l.plan) l.schedule (world_of l.plan l.fn.world)) (range_with_len 0 l.process-index);
  table : AreOfTable l.plan.table l.records.items;
}
