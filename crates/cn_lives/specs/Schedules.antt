-- Schedules of steps and crashes.
use Rattle.std.specs.Prelude.{ℕ, List, map}
use Rattle.cn_lives.specs.declared.schedule.Event.{Event}
use Rattle.cn_lives.specs.declared.schedule.Event.TheVariants.{Step, Crash}

-- the process of an event
abbrev pub process_of : Event → ℕ
process_of (Step q) = q
process_of (Crash q) = q

-- the processes that a schedule names, in order
abbrev pub named : List Event → List ℕ
named schedule = map process_of schedule
