-- The faults of events that cannot come, and of lists of events that cannot be replayed.
use Rattle.std.specs.Prelude.{ℕ, ◌≡◌, ◌⊎◌, List, length, take, slice_get, nat_lt, if◌then◌else◌}
use Rattle.std.specs.Prelude.{Option, Some, None}
use Rattle.cn_log.specs.declared.event.Event.{Event}
use Rattle.cn_log.specs.declared.event.Event.TheVariants.{Invoke, Step}
use Rattle.cn_log.specs.declared.fault.EventFault.{EventFault}
use Rattle.cn_log.specs.declared.fault.EventFault.TheVariants.{NoSuchProcess, NoSuchOperation}
use Rattle.cn_log.specs.declared.fault.EventFault.TheVariants.{NotIdle, Idle, AtEnd}
use Rattle.cn_log.specs.declared.fault.ReplayFault.{ReplayFault}
use Rattle.cn_log.specs.declared.fault.ReplayFault.TheVariants as replay
use Rattle.cn_log.specs.declared.caller_state.Phase.{Phase}
use Rattle.cn_log.specs.declared.caller_state.Phase.TheVariants.{Looks, Runs}
use Rattle.cn_log.specs.declared.caller_state.Phase.TheVariants.{Idle as IsIdle}
use Rattle.cn_log.specs.Log.{Setting, World, Caller, state_of, IsEventList}

-- the fault of a call by a process that exists with an operation that exists: it is in a call
-- already, or at the end of the log
abbrev pub invoke_fault : ℕ → ℕ → Caller → Phase → Option EventFault
invoke_fault capacity i here IsIdle =
    if nat_lt (length here.seen) capacity then None else Some (AtEnd i)
invoke_fault capacity i here (Looks e q batch) = Some (NotIdle i)
invoke_fault capacity i here (Runs e) = Some (NotIdle i)

-- the fault of a step of a process that exists: it is in no call
abbrev pub step_fault : ℕ → Phase → Option EventFault
step_fault i IsIdle = Some (Idle i)
step_fault i (Looks e q batch) = None
step_fault i (Runs e) = None

-- the fault of this event as event i, if it cannot come: of two faults, the one with the least
-- number
abbrev pub event_fault : {R : Type 0} → Setting R → World R → ℕ → Event → Option EventFault
event_fault L w i (Invoke p operation) =
    if nat_lt p L.processes
    then (if nat_lt operation (length L.object.operations)
    then invoke_fault L.capacity i (w.caller p) (w.caller p).phase else Some (NoSuchOperation i))
    else Some (NoSuchProcess i)
event_fault L w i (Step p) =
    if nat_lt p L.processes then step_fault i (w.caller p).phase else Some (NoSuchProcess i)

-- this is the fault of the first event of the list that cannot come
pub record IsFirstEventFault {R : Type 0} (L : Setting R) (events : List Event) (fault : EventFault)
    : Type 0 where
  pub place : ℕ
  pub event : Event
  pub before : IsEventList L (take place events)
  pub there : slice_get events place ≡ Some event
  pub why : event_fault L (state_of L (take place events)) place event ≡ Some fault

-- the fault of a replay that is the fault of an event
abbrev pub replay_fault : EventFault → ReplayFault
replay_fault (NoSuchProcess i) = replay.NoSuchProcess i
replay_fault (NoSuchOperation i) = replay.NoSuchOperation i
replay_fault (NotIdle i) = replay.NotIdle i
replay_fault (Idle i) = replay.Idle i
replay_fault (AtEnd i) = replay.AtEnd i

-- this is the fault of a replay of the list: want of memory, or that of the first event that
-- cannot come
abbrev pub IsReplayFault : {R : Type 0} → Setting R → List Event → ReplayFault → Type 0
IsReplayFault L events fault = (fault ≡ replay.OutOfMemory)
    ⊎ ((e : EventFault) × IsFirstEventFault L events e × (fault ≡ replay_fault e))
