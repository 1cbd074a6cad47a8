-- The executions of the model with crashes that schedules of lives are.
use Rattle.std.specs.Prelude.{List, map}
use Rattle.cn_crashes.specs.Execution.{Event as ModelEvent}
use Rattle.cn_crashes.specs.Execution.Event.{Step as StepEvent, Crash as CrashEvent}
use Rattle.cn_lives.specs.declared.schedule.Event.{Event}
use Rattle.cn_lives.specs.declared.schedule.Event.TheVariants.{Step, Crash}

-- the event of an execution
abbrev pub event_of : Event → ModelEvent
event_of (Step q) = StepEvent q
event_of (Crash q) = CrashEvent q

-- the execution of a schedule
abbrev pub execution_of : List Event → List ModelEvent
execution_of schedule = map event_of schedule
