-- Halls and seats, as contracts see them.
use Rattle.std.specs.Prelude.{◌≡◌, ◌≤◌, ℕ, Bool, true, false, List, [], ◌∷◌, length, Option, Some}
use Rattle.std.specs.Prelude.{None}
use Rattle.atomic_table.specs.Seated.{TableId}
use Rattle.cn_table.specs.TypeTable.{TypeTable}
use Rattle.cn_proto.specs.Plan.{Plan}
use Rattle.cn_log.specs.Callers.{caller_of, calls_by, entries_by, pending_in, seen_of}
use Rattle.cn_log.specs.declared.batch.Batch.{Batch}
use Rattle.cn_log.specs.Log.{Caller, IsEventList, answer}
use Rattle.cn_log.specs.Opening.{IsOpening, Log, opening_of, setting}
use Rattle.cn_log.specs.declared.entry.Entry.{Entry}
use Rattle.cn_log.specs.declared.event.Event.TheVariants.{Invoke, Step}
use Rattle.cn_log.specs.declared.event.StepAnswer.{StepAnswer}
use Rattle.cn_log.specs.declared.caller_state.Phase.{Phase}
use Rattle.cn_log.specs.declared.caller_state.Phase.TheVariants.{Idle, Looks, Runs}
use Rattle.cn_hall.specs.declared.standing.Standing.{Standing}
use Rattle.cn_hall.specs.declared.rule.Item.{Item}
use Rattle.cn_hall.specs.declared.rule.Pair.{Pair}
use Rattle.cn_hall.specs.declared.rule.PassStatus.TheVariants.{Live}
use Rattle.cn_hall.specs.declared.rule.View.{View}
use Rattle.cn_hall.specs.Rule.{Carries, later_core, pair, view_of}

-- the identity of a hall
abbrev pub HallId : Type 0
HallId = TableId

-- a seat: its hall, its process, the core as it was when the seat last put an event in, at first as
-- it was opened, and whether the seat holds the hall's core
pub record SeatState : Type 0 where
  pub hall : HallId
  pub process : ℕ
  pub core : Log
  pub held : Bool

-- a seat that does not hold the core
abbrev pub seat_state : HallId → ℕ → Log → SeatState
seat_state hall p core = record { hall = hall; process = p; core = core; held = false }

-- the seat is one of the hall, and does not hold its core
abbrev pub IsSeatOf : HallId → SeatState → Type 0
IsSeatOf hall s = (s.hall ≡ hall) × (s.held ≡ false)

-- the knowledge of a process about the core
abbrev pub caller_at : Log → ℕ → Caller
caller_at core p = caller_of (setting core) core.schedule p

abbrev pub is_in_call : Phase → Bool
is_in_call Idle = false
is_in_call (Looks mine q batch) = true
is_in_call (Runs mine) = true

abbrev pub caller : SeatState → Caller
caller s = caller_at s.core s.process

-- the batches of the slots that the seat has seen, which its process has replayed
abbrev pub slots_seen : SeatState → List Batch
slots_seen s = (caller s).seen

-- the entries of these slots, in log order
abbrev pub entries_seen : SeatState → List Entry
entries_seen s = seen_of (setting s.core) s.core.schedule s.process

-- the calls that the seat's process has made, in order
abbrev pub calls_made : SeatState → List Entry
calls_made s = calls_by s.process s.core.schedule

-- the entries of its process among those that the seat has seen, in order
abbrev pub own_entries_seen : SeatState → List Entry
own_entries_seen s = entries_by s.process (entries_seen s)

-- the pending call of the seat's process, with its operation and its number
abbrev pub pending : SeatState → Option Entry
pending s = pending_in (caller s).phase

-- the events of the core could come
pub record IsLog (core : Log) : Type 0 where
  pub opening : IsOpening core.opening
  pub events : IsEventList (setting core) core.schedule

-- no log: a pass that knows of no core
abbrev pub no_table : TypeTable
no_table = record { name = []; states = []; responses = []; operations = [] }

abbrev pub no_plan : Plan
no_plan =
    record { table = no_table; choice = record { state = 0; a = []; b = [] }; judged_pairs = [] }

abbrev pub no_log : Log
no_log = record { opening = opening_of no_plan no_table 0 0; schedule = [] }

abbrev pub core_in : List Pair → Log
core_in [] = no_log
core_in (x ∷ pairs) = x.core

abbrev pub core_of : View → Log
core_of v = core_in v.pairs

abbrev pub is_held : Option Item → Bool
is_held None = false
is_held (Some x) = true

-- the pass is that of a seat: it has one pair, that of the process
abbrev pub IsOfSeat : View → ℕ → Log → Type 0
IsOfSeat v p core = v ≡ view_of Live (pair p core ∷ []) v.notes v.held

-- the same, and it holds no core
abbrev pub SitsAs : View → ℕ → Log → Type 0
SitsAs v p core = v ≡ view_of Live (pair p core ∷ []) v.notes None

-- the progress of a process in the core
abbrev pub IsStanding : Log → ℕ → Standing → Type 0
IsStanding core p x = (x.entries ≡ length (seen_of (setting core) core.schedule p))
    × (x.slots ≡ length (caller_at core p).seen)
    × (x.slots ≤ core.opening.capacity) × (x.in_call ≡ is_in_call (caller_at core p).phase)

-- the process took a step in a later core, without an event of its own between
abbrev pub IsStep : ℕ → Log → StepAnswer → Log → Type 0
IsStep p core given now = (s : Log) × Carries p core s × (now ≡ later_core s (Step p ∷ []))
    × (given ≡ answer (setting s) s.schedule p) × IsLog now

-- the process made a call in a later core, without an event of its own between
abbrev pub IsInvoke : ℕ → ℕ → Log → Log → Type 0
IsInvoke p operation core now =
    (s : Log) × Carries p core s × (now ≡ later_core s (Invoke p operation ∷ [])) × IsLog now

-- the pass knows one core, and has no pair
abbrev pub KnowsOnly : View → Log → Type 0
KnowsOnly v core = v ≡ view_of Live [] (core ∷ []) None

abbrev pub note_of : List Log → Log
note_of [] = no_log
note_of (core ∷ notes) = core

-- the first log that the pass knows besides its pairs
abbrev pub note_in : View → Log
note_in v = note_of v.notes
