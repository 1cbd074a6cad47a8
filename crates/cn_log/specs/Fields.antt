-- The fields of a core: the state after its schedule.
use Rattle.std.specs.Prelude.{ℕ, ◌≡◌, ◌<◌, ◌+◌, ◌*◌, ◌≤◌, ◌==◌, nat_lt, List, [], ◌∷◌, length}
use Rattle.std.specs.Prelude.{replicate, slice_index_or, if◌then◌else◌, Option, Some, None}
use Rattle.cn_table.specs.TypeTable.{transition}
use Rattle.cn_table.specs.Run.{state_after}
use Rattle.cn_log.specs.declared.batch.Batch.{Batch}
use Rattle.cn_log.specs.declared.call_counts.CallCounts.{CallCounts}
use Rattle.cn_log.specs.declared.entry.Entry.{Entry}
use Rattle.cn_log.specs.Batches.{has, members, slots_from, with_entry}
use Rattle.cn_log.specs.Callers.{entries_by}
use Rattle.cn_log.specs.declared.event.Event.{Event}
use Rattle.cn_log.specs.declared.event.StepAnswer.{StepAnswer}
use Rattle.cn_log.specs.declared.event.StepAnswer.TheVariants.{Working, Answered, Full}
use Rattle.cn_log.specs.declared.caller_state.Phase.{Phase}
use Rattle.cn_log.specs.declared.caller_state.Phase.TheVariants.{Idle}
use Rattle.cn_log.specs.declared.caller_state.CallerState.{CallerState}
use Rattle.cn_log.specs.Opening.{Opening, setting_of}
use Rattle.cn_proto.specs.Plan.{processes_of}
use Rattle.cn_agree.specs.World.{World as RoundWorld}
use Rattle.cn_log.specs.Log.{Setting, World, Caller, object_after, operations_of, batches_of}
use Rattle.cn_log.specs.Log.{entries_of, entries_of_batches, state_of, IsEventList}
use Rattle.cn_choice.specs.declared.limits.TheConstants.{MOST_PROCESSES}

abbrev pub no_calls : CallCounts
no_calls = record { calls = replicate MOST_PROCESSES 0 }

-- the number of calls of process p
abbrev pub count_at : CallCounts → ℕ → ℕ
count_at counts p = slice_index_or counts.calls p 0

abbrev pub no_caller_state : CallerState
no_caller_state = record {
  replayed_slots = 0;
  replayed_entries = 0;
  calls_seen = no_calls;
  calls = 0;
  phase = Idle;
  state = record { 0 = 0 };
}

-- the batch after reading the announcement of process q, if the slots replayed hold this many
-- calls of process q
abbrev pub batch_with_calls : Option Entry → ℕ → ℕ → Batch → Batch
batch_with_calls None calls q batch = batch
batch_with_calls (Some other) calls q batch =
    if nat_lt other.call calls then batch else with_entry batch q other

-- the batch of slot k, if it is fixed and the next one after this many fixed batches
abbrev pub next_batch : ℕ → ℕ → Option Batch → List Batch
next_batch many k None = []
next_batch many k (Some b) = if many == k then b ∷ [] else []

-- the fields of a log: the round of each slot, the announcement of each process, the progress of
-- each process, the entries of the fixed slots, each with its slot, the number of fixed slots, and
-- the room for entries and slots
pub record Fields (R : Type 0) : Type 0 where
  pub rounds : List R
  pub announced : List (Option Entry)
  pub callers : List CallerState
  pub entries : List Entry
  pub slots : List ℕ
  pub fixed : ℕ
  pub entries_room : ℕ
  pub slots_room : ℕ

module _ {R : Type 0} (L : Setting R) where
  -- the answer of a process with this call pending that replays batch x in slot k, if its copy of
  -- the object is in this state
  abbrev pub step_answer : ℕ → ℕ → Entry → Batch → StepAnswer
  step_answer k state mine x =
      if has x mine
      then Answered k (record {
        0 = (transition L.object mine.operation.0
            (state_after L.object state (operations_of (members mine.process 0 x)))).0;
      })
      else (if k + 1 == L.capacity then Full else Working)

  -- of what a caller has replayed, the numbers of slots, of entries and of calls of each
  -- process, and the state of its copy of the object
  pub record IsCallerState (here : CallerState) (caller : Caller) : Type 0 where
    pub replayed_slots : here.replayed_slots ≡ length caller.seen
    pub replayed_entries : here.replayed_entries ≡ length (entries_of_batches L caller.seen)
    pub calls_places : length here.calls_seen.calls ≡ MOST_PROCESSES
    pub calls_seen : (q : ℕ) → q < L.processes
        → count_at here.calls_seen q ≡ length (entries_by q (entries_of_batches L caller.seen))
    pub calls : here.calls ≡ caller.calls
    pub phase : here.phase ≡ caller.phase
    pub state : here.state.0 ≡ object_after L (entries_of_batches L caller.seen)
    pub known : here.state.0 < length L.object.states

  -- the fields of this world
  pub record AreFieldsOf (w : World R) (fields : Fields R) : Type 0 where
    pub rounds_many : length fields.rounds ≡ L.capacity
    pub round : (k : ℕ) → k < L.capacity → slice_index_or fields.rounds k L.untouched ≡ w.round k
    pub announced_many : length fields.announced ≡ L.processes
    pub announcement : (p : ℕ) → p < L.processes
        → slice_index_or fields.announced p None ≡ w.announced p
    pub callers_many : length fields.callers ≡ L.processes
    pub caller : (p : ℕ) → p < L.processes
        → IsCallerState (slice_index_or fields.callers p no_caller_state) (w.caller p)
    pub entries_are : fields.entries ≡ entries_of L w
    pub slots_are : fields.slots ≡ slots_from L.processes 0 (batches_of L w)
    pub fixed_is : fields.fixed ≡ length (batches_of L w)

  -- the fields of the state after the schedule
  pub record Keeps (schedule : List Event) (fields : Fields R) : Type 0 where
    pub events : IsEventList L schedule
    pub fits : AreFieldsOf (state_of L schedule) fields

  -- and process p is in this phase
  pub record IsAt (schedule : List Event) (fields : Fields R) (p : ℕ) (phase : Phase) : Type 0 where
    pub keeps : Keeps schedule fields
    pub process : p < L.processes
    pub phase_is : ((state_of L schedule).caller p).phase ≡ phase

-- the fields of a log with the rounds of a plan
abbrev pub LogFields : Type 0
LogFields = Fields (RoundWorld Batch)

-- the state of a core is that after the schedule
abbrev pub IsStateAfter : Opening → List Event → LogFields → Type 0
IsStateAfter o schedule state = Keeps (setting_of o) schedule state

-- and process p is in this phase
abbrev pub IsStateAt : Opening → List Event → LogFields → ℕ → Phase → Type 0
IsStateAt o schedule state p phase = IsAt (setting_of o) schedule state p phase

-- the state has room for an entry of each process in each slot
pub record HasRoom (o : Opening) (state : LogFields) : Type 0 where
  pub entries : processes_of o.plan * o.capacity ≤ state.entries_room
  pub slots : processes_of o.plan * o.capacity ≤ state.slots_room

-- the room is the same as before
pub record HasSameRoom (old new : LogFields) : Type 0 where
  pub entries : new.entries_room ≡ old.entries_room
  pub slots : new.slots_room ≡ old.slots_room
