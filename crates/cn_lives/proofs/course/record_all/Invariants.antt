use Rattle.std.proofs.Common.{◌≡◌, ◌++◌, drop}
use Rattle.cn_lives.specs.Courses.{AreOfTable, records_from}
use Rattle.cn_lives.specs.Lives.{world_of}
use Rattle.cn_lives.proofs.Running.{HasRun}
use Rattle.cn_lives.proofs.course.record_all.Given as goal

abbrev pub invariant-loop-event : goal.invariant-loop-event
invariant-loop-event l = record {
  run : HasRun l.plan (world_of l.fn.lives) l.schedule l.event-index (world_of l.lives);
  records : l.records.items
      ++ records_from l.plan (drop l.event-index l.schedule) (world_of l.lives)
      ≡ records_from l.plan l.schedule (world_of l.fn.lives);
  table : AreOfTable l.plan.plan.table l.records.items;
}
