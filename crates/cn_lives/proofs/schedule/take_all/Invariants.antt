use Rattle.cn_lives.specs.Lives.{world_of}
use Rattle.cn_lives.proofs.Running.{HasRun}
use Rattle.cn_lives.proofs.schedule.take_all.Given as goal

abbrev pub invariant-loop-event : goal.invariant-loop-event
invariant-loop-event l =
    HasRun l.plan (world_of l.fn.lives) l.schedule l.event-index (world_of l.lives)
