-- Arguments that are events of a log, and how many slots it has.
use Rattle.std.specs.Prelude.{codes, ℕ, List, Option, option_map, option_and_then, ◌==◌, ◌≡◌, ◌⊎◌}
use Rattle.std.specs.Prelude.{[], ◌∷◌, None, if◌then◌else◌, map, nat_le, Some, Result, Ok, Err}
use Rattle.std.specs.List.{before_first, after_first}
use Rattle.cn_log.specs.declared.event.Event.{Event}
use Rattle.cn_log.specs.declared.event.Event.TheVariants as event
use Rattle.cn_log.specs.declared.limits.TheConstants.{MOST_SLOTS}
use Rattle.cn_table.specs.Texts.{code_of}
use Rattle.cn_table.specs.TypeTable.{TypeTable}
use Rattle.cn_io.specs.Arguments.Lists.{Spells, number_up_to, list_of}
use Rattle.cn_io.specs.Arguments.Operations.{operation_in, operation_of}
use Rattle.cn_io.specs.declared.arguments.events.EventList.{EventList}
use Rattle.cn_io.specs.declared.arguments.events.EventList.TheVariants.{Numbers, Words}
use Rattle.cn_io.specs.declared.arguments.events.EventWord.{EventWord}
use Rattle.cn_io.specs.declared.arguments.events.EventWord.TheVariants.{Invoke, Step}
use Rattle.cn_io.specs.declared.arguments.list_text.ListText.{ListText}
use Rattle.cn_io.specs.declared.arguments.operations.OperationWord.TheVariants.{Number}
use Rattle.cn_io.specs.declared.fault.AppFault.{AppFault}
use Rattle.cn_io.specs.declared.fault.AppFault.TheVariants.{Argument, OutOfMemory}
use Rattle.cn_io.specs.declared.fault.Argument.TheVariants.{Capacity, Events}

-- a process that takes a step: its number, behind an s
abbrev pub step_of : List ℕ → Option EventWord
step_of text = option_map Step (number_up_to 255 text)

-- a process that makes a call: behind an i its number, a colon and the operation
abbrev pub invoke_of : List ℕ → Option EventWord
invoke_of text =
    option_and_then (λ p. option_map (λ o. Invoke p o)
    (operation_of (after_first (λ byte. byte == code_of (codes ":")) text)))
    (number_up_to 255 (before_first (λ byte. byte == code_of (codes ":")) text))

-- the event that a text gives, if it gives one
abbrev pub event_of : List ℕ → Option EventWord
event_of [] = None
event_of (letter ∷ rest) = if letter == code_of (codes "s") then step_of rest
    else (if letter == code_of (codes "i") then invoke_of rest else None)

-- a list of events
abbrev pub events_of : ListText → Option (List EventWord)
events_of list = list_of event_of list

-- the event of a log, by the numbers that operations have in an object
abbrev pub event_in : TypeTable → EventWord → Event
event_in object (Invoke p o) = event.Invoke p (operation_in object o)
event_in object (Step p) = event.Step p

-- the same of one event after the other
abbrev pub events_in : TypeTable → List EventWord → List Event
events_in object words = map (event_in object) words

-- an event of a log, as it is given by numbers
abbrev pub word_of : Event → EventWord
word_of (event.Invoke p o) = Invoke p (Number o)
word_of (event.Step p) = Step p

-- the events of a list that was read
abbrev pub words_of : EventList → List EventWord
words_of (Numbers events) = map word_of events.items
words_of (Words words) = words.items

-- the number of slots, which is at least 1
abbrev pub capacity_of : List ℕ → Option ℕ
capacity_of text =
    option_and_then (λ n. if nat_le 1 n then Some n else None) (number_up_to MOST_SLOTS text)

-- reading the number of slots ends so
abbrev pub GivesCapacity : List ℕ → Result ℕ AppFault → Type 0
GivesCapacity text r = Spells Capacity (capacity_of text) r

-- reading the events ends so
abbrev pub GivesEvents : ListText → Result EventList AppFault → Type 0
GivesEvents list (Ok given) = events_of list ≡ Some (words_of given)
GivesEvents list (Err e) = (e ≡ OutOfMemory) ⊎ ((e ≡ Argument Events) × (events_of list ≡ None))
