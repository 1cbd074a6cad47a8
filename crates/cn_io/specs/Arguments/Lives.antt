-- Arguments for a run of processes that crash and come back.
use Rattle.std.specs.Prelude.{codes, ℕ, List, [], ◌∷◌, Option, Some, None, option_map, ◌==◌, ◌≡◌}
use Rattle.std.specs.Prelude.{◌≤◌, ◌⊎◌, IfSome, IsSome, Result, Ok, Err, if◌then◌else◌}
use Rattle.cn_table.specs.Texts.{code_of}
use Rattle.cn_choice.specs.declared.limits.TheConstants.{MOST_PROCESSES}
use Rattle.cn_lives.specs.declared.schedule.Event.{Event}
use Rattle.cn_lives.specs.declared.schedule.Event.TheVariants.{Step, Crash}
use Rattle.cn_io.specs.Arguments.Lists.{inputs_of, list_of, number_up_to}
use Rattle.cn_io.specs.declared.arguments.list_text.ListText.{ListText}
use Rattle.cn_io.specs.declared.arguments.lives.LifeLists.{LifeLists}
use Rattle.cn_io.specs.declared.fault.AppFault.{AppFault}
use Rattle.cn_io.specs.declared.fault.AppFault.TheVariants.{Argument, OutOfMemory}
use Rattle.cn_io.specs.declared.fault.Argument.TheVariants.{Inputs, Processes, Schedule}

-- an event of a schedule: a process that crashes has its number behind a c, and one that takes a
-- step has its number alone
abbrev pub life_event_of : List ℕ → Option Event
life_event_of [] = None
life_event_of (letter ∷ rest) =
    if letter == code_of (codes "c") then option_map Crash (number_up_to 255 rest)
    else option_map Step (number_up_to 255 (letter ∷ rest))

-- a schedule, event by event
abbrev pub life_schedule_of : ListText → Option (List Event)
life_schedule_of list = list_of life_event_of list

-- reading the inputs and then the schedule ends so
abbrev pub GivesLifeLists : ListText → ListText → Result LifeLists AppFault → Type 0
GivesLifeLists inputs schedule (Ok lists) = (inputs_of inputs ≡ Some lists.inputs.items)
    × (life_schedule_of schedule ≡ Some lists.schedule.items)
GivesLifeLists inputs schedule (Err e) =
    (e ≡ OutOfMemory) ⊎ (((e ≡ Argument Inputs) × (inputs_of inputs ≡ None))
    ⊎ ((e ≡ Argument Schedule) × (life_schedule_of schedule ≡ None)
    × ((xs : List ℕ) × (inputs_of inputs ≡ Some xs))))

-- the words spell inputs and a schedule
abbrev pub SpellLifeLists : ListText → ListText → Type 0
SpellLifeLists inputs schedule = IsSome (inputs_of inputs) × IsSome (life_schedule_of schedule)

-- a plan is for 2 processes at least, and for the most of a choice at most
abbrev pub CanBe : ℕ → Type 0
CanBe n = (2 ≤ n) × (n ≤ MOST_PROCESSES)

-- a given number of processes is looked at so: there can be so many, or there cannot
abbrev pub GivesProcesses : Option ℕ → Result Unit AppFault → Type 0
GivesProcesses given (Ok done) = IfSome given CanBe
GivesProcesses given (Err e) =
    (e ≡ Argument Processes) × ((n : ℕ) × (given ≡ Some n) × ¬ (CanBe n))
