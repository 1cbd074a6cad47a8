use Rattle.std.proofs.Common.{◌≡◌}
use Rattle.cn_plan_text.specs.RecordingPlans.{most_of}
use Rattle.cn_plan_text.proofs.recording_plan.most_life_steps.Given as goal

-- the greatest of the processes so far
abbrev pub invariant-loop-process : goal.invariant-loop-process
invariant-loop-process l = l.most ≡ most_of l.plan l.process
