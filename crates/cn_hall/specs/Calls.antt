-- The effect of a call on a seat.
use Rattle.std.specs.Prelude.{◌≡◌, ℕ, ◌⊎◌, List, [], ◌∷◌, ◌++◌, length, Some, None, Result, Ok, Err}
use Rattle.cn_log.specs.Batches.{entry_at}
use Rattle.cn_log.specs.Log.{response_in}
use Rattle.cn_log.specs.declared.batch.Batch.{Batch}
use Rattle.cn_log.specs.Opening.{Log, setting}
use Rattle.cn_log.specs.declared.entry.Entry.{Entry}
use Rattle.cn_log.specs.declared.event.Event.{Event}
use Rattle.cn_log.specs.declared.event.Event.TheVariants.{Invoke, Step}
use Rattle.cn_log.specs.Callers.{BeginsWith, HasNoEventOf, entries_by, call_of}
use Rattle.cn_log.specs.Callers.{IsUnseen as IsInNone}
use Rattle.cn_hall.specs.Seats.{SeatState, IsInvoke, caller, calls_made, pending, own_entries_seen}
use Rattle.cn_hall.specs.Seats.{entries_seen, slots_seen}
use Rattle.cn_hall.specs.declared.call.CallFault.{CallFault}
use Rattle.cn_hall.specs.declared.call.CallFault.TheVariants.{LogFull, Stopped}
use Rattle.cn_hall.specs.declared.call.Go.{Go}
use Rattle.cn_hall.specs.declared.call.Go.TheVariants.{On, Stop}
use Rattle.cn_log.specs.declared.event.Reply.{Reply}

-- the same seat of the same hall, over a core of the same opening; it holds the core if it did
-- before
abbrev pub IsSameSeat : SeatState → SeatState → Type 0
IsSameSeat old new = (new.hall ≡ old.hall) × (new.process ≡ old.process)
    × (new.core.opening ≡ old.core.opening) × (new.held ≡ old.held)

-- no event of the list is a call of the process
abbrev pub NoCall : ℕ → List Event → Type 0
NoCall p [] = Unit {0}
NoCall p (Invoke q operation ∷ events) = (q ≡ p → ⊥) × NoCall p events
NoCall p (Step q ∷ events) = NoCall p events

-- the core has come further, and the new events of the process are steps
abbrev pub GoesOn : ℕ → Log → Log → Type 0
GoesOn p before now = (now.opening ≡ before.opening) × (rest : List Event)
    × (now.schedule ≡ before.schedule ++ rest) × NoCall p rest

-- the process has made one call, of this operation, and then taken steps
abbrev pub MakesCall : ℕ → ℕ → Log → Log → Type 0
MakesCall p operation before now = (mid : Log) × IsInvoke p operation before mid × GoesOn p mid now

-- the next call of the seat's process, if it is of this operation
abbrev pub next_call : SeatState → ℕ → Entry
next_call s operation = call_of s.process operation (caller s).calls

-- the last slot seen is the slot replied and holds this call, no call is pending, and the response
-- is that of one sequential run at its place there; the entries of the seat's process that it has
-- seen are the calls that it has made
abbrev pub IsReply : Entry → SeatState → Reply → Type 0
IsReply mine s r = (pending s ≡ None) × (front : List Batch) × (batch : Batch)
    × (slots_seen s ≡ front ++ batch ∷ [])
    × (entry_at batch s.process ≡ Some mine) × (r.slot ≡ length front)
    × (r.response.0 ≡ response_in (setting s.core) front batch mine)
    × (calls_made s ≡ own_entries_seen s)

-- the entries of the seat's process that it has seen are the calls that it has made, except the
-- last, which is this one
abbrev pub AllButLast : Entry → SeatState → Type 0
AllButLast mine s = calls_made s ≡ own_entries_seen s ++ mine ∷ []

-- no slot that the seat has seen holds the call
abbrev pub IsUnseen : Entry → SeatState → Type 0
IsUnseen mine s = IsInNone (slots_seen s) mine

-- no call is pending, and the seat has seen every slot
abbrev pub IsFull : SeatState → Type 0
IsFull s = (pending s ≡ None) × (length (slots_seen s) ≡ s.core.opening.capacity)

-- the end of a call that was made
abbrev pub EndsBy : Entry → CallFault → SeatState → Type 0
EndsBy mine LogFull s = IsFull s × IsUnseen mine s × AllButLast mine s
EndsBy mine Stopped s = (pending s ≡ Some mine) × AllButLast mine s

-- the seat after a call with a fault; if the log is full, the seat has seen every slot, none holds
-- the call, and the call was made unless the seat had seen every slot before; else the call was
-- made, and has ended in this way
abbrev pub CallFails : ℕ → CallFault → SeatState → SeatState → Type 0
CallFails operation LogFull old new = IsFull new × IsUnseen (next_call old operation) new
    × ((new ≡ old) ⊎ (MakesCall old.process operation old.core new.core
    × AllButLast (next_call old operation) new))
CallFails operation Stopped old new =
    MakesCall old.process operation old.core new.core × EndsBy (next_call old operation) Stopped new

-- after a call with this answer, the entries of the seat's process that it has seen are the calls
-- that it has made, each once and in order; without a reply, perhaps except the last
abbrev pub HasPlaced : SeatState → Result Reply CallFault → Type 0
HasPlaced s (Ok r) = calls_made s ≡ own_entries_seen s
HasPlaced s (Err e) = (calls_made s ≡ own_entries_seen s) ⊎ ((mine : Entry) × AllButLast mine s)

-- the last answer of the gate after a call with this answer
abbrev pub go_after : Result Reply CallFault → Go
go_after (Ok r) = On
go_after (Err LogFull) = On
go_after (Err Stopped) = Stop

-- one core is the other, or has come further, without an event since of the process of the seat
-- that saw less
abbrev pub HaveMet : SeatState → SeatState → Type 0
HaveMet a b = ((rest : List Event) × (b.core.schedule ≡ a.core.schedule ++ rest)
    × HasNoEventOf a.process rest) ⊎ ((rest : List Event)
    × (a.core.schedule ≡ b.core.schedule ++ rest) × HasNoEventOf b.process rest)

-- of the entries of the second seat's process, the first seat has seen only calls that the process
-- made, the first of them, in order
abbrev pub HasOnlyMade : SeatState → SeatState → Type 0
HasOnlyMade a b = BeginsWith (calls_made b) (entries_by b.process (entries_seen a))
