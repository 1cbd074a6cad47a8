-- The universal log, event by event: processes agree slot by slot on the next calls of an object,
-- and each replays the calls on its own copy.
use Rattle.std.specs.Prelude.{ℕ, zero, suc, ◌≡◌, ◌≢◌, ◌+◌, ◌<◌, ◌==◌, Bool, true, false, List, []}
use Rattle.std.specs.Prelude.{◌∷◌, ◌++◌, length, map, if◌then◌else◌, Option, Some, None}
use Rattle.std.specs.List.{list_any}
use Rattle.cn_table.specs.TypeTable.{TypeTable, transition}
use Rattle.cn_table.specs.Run.{state_after}
use Rattle.cn_log.specs.Batches.{same_entry, no_entries, with_entry, has, members, entries_in}
use Rattle.cn_log.specs.Consensus.{Consensus}
use Rattle.cn_log.specs.declared.batch.Batch.{Batch}
use Rattle.cn_log.specs.declared.entry.Entry.{Entry}
use Rattle.cn_log.specs.declared.event.Event.{Event}
use Rattle.cn_log.specs.declared.event.Event.TheVariants.{Invoke, Step}
use Rattle.cn_log.specs.declared.event.StepAnswer.{StepAnswer}
use Rattle.cn_log.specs.declared.event.StepAnswer.TheVariants.{Working, Answered, Full}
use Rattle.cn_log.specs.declared.caller_state.Phase.{Phase}
use Rattle.cn_log.specs.declared.caller_state.Phase.TheVariants.{Idle, Looks, Runs}

-- the setting of a log: consensus in each slot and a round before any step, the numbers of
-- processes and slots, and the object with its start state
pub record Setting (R : Type 0) : Type 0 where
  pub consensus : Consensus R
  pub untouched : R
  pub processes : ℕ
  pub capacity : ℕ
  pub object : TypeTable
  pub start : ℕ

-- the knowledge of a process: the batch of each slot that it has replayed, the number of its
-- calls, and its next move
pub record Caller : Type 0 where
  pub seen : List Batch
  pub calls : ℕ
  pub phase : Phase

-- the record: a call, with the number of slots fixed when it was made; an answer to a call, with
-- its slot and response; a call that found the log full
pub data Note : Type 0 where
  Called : Entry → ℕ → Note
  Replied : Entry → ℕ → ℕ → Note
  FoundFull : Entry → Note

-- the round of each slot, the announcement of each process, the knowledge of each process, and the
-- record, newest first, which no step reads
pub record World (R : Type 0) : Type 0 where
  pub round : ℕ → R
  pub announced : ℕ → Option Entry
  pub caller : ℕ → Caller
  pub history : List Note

-- a function changed at one place
abbrev pub put : {A : Type 0} → (ℕ → A) → ℕ → A → ℕ → A
put f i x j = if j == i then x else f j

-- the list has the entry
abbrev pub has_entry : List Entry → Entry → Bool
has_entry entries e = list_any (λ f. same_entry f e) entries

-- the operations of the entries, in order
abbrev pub operations_of : List Entry → List ℕ
operations_of entries = map (λ e. e.operation.0) entries

-- the batch after reading the announcement of process q: it takes the call there, unless the
-- slots that the process has replayed
-- hold it
abbrev pub batch_with : Option Entry → List Entry → ℕ → Batch → Batch
batch_with None seen q batch = batch
batch_with (Some other) seen q batch =
    if has_entry seen other then batch else with_entry batch q other

-- a process with this call pending goes on to its next slot, where it looks at the announcements in
-- order
abbrev pub first_look : Entry → Phase
first_look mine = Looks mine 0 no_entries

-- the batch of a fixed slot and those after it, or none from an open slot on
abbrev pub up_to_open : Option Batch → List Batch → List Batch
up_to_open None rest = []
up_to_open (Some b) rest = b ∷ rest

module _ {R : Type 0} (L : Setting R) where
  -- the object after the entries, by one sequential run of their operations
  abbrev pub object_after : List Entry → ℕ
  object_after entries = state_after L.object L.start (operations_of entries)

  -- the response of the object to an operation after the entries
  abbrev pub response_after : List Entry → ℕ → ℕ
  response_after entries operation = (transition L.object operation (object_after entries)).0

  -- the entries of the batches, by batch, then by process
  abbrev pub entries_of_batches : List Batch → List Entry
  entries_of_batches batches = entries_in L.processes batches

  -- the response of the object to a call in this batch, behind these batches: it comes after their
  -- entries, and those of the processes before in its own batch
  abbrev pub response_in : List Batch → Batch → Entry → ℕ
  response_in batches batch e =
      response_after (entries_of_batches batches ++ members e.process 0 batch) e.operation.0

  -- the batches before the first slot that is not fixed, of this many slots from slot k on
  abbrev pub fixed_from : ℕ → ℕ → (ℕ → R) → List Batch
  fixed_from zero k round = []
  fixed_from (suc slots) k round =
      up_to_open (L.consensus.fixed (round k)) (fixed_from slots (suc k) round)

  -- the batches of the fixed slots, in order
  abbrev pub batches_of : World R → List Batch
  batches_of w = fixed_from L.capacity 0 w.round

  -- the entries of the fixed slots, in order
  abbrev pub entries_of : World R → List Entry
  entries_of w = entries_of_batches (batches_of w)

  -- process p makes its next call: it writes the call to its announcement
  abbrev pub after_invoke : World R → ℕ → ℕ → Caller → World R
  after_invoke w p operation here =
      let e : Entry = record { process = p; operation = record { 0 = operation }; call = here.calls } in
      record w {
        announced = put w.announced p (Some e);
        caller = put w.caller p
            (record { seen = here.seen; calls = here.calls + 1; phase = first_look e });
        history = Called e (length (batches_of w)) ∷ w.history;
      }

  -- process p, with this call pending, has read the announcement of process q and gathered this
  -- batch; after the last announcement it begins with the batch in the round of its slot
  abbrev pub after_gathering : World R → ℕ → Caller → Entry → ℕ → Batch → Bool → World R
  after_gathering w p here mine q batch false =
      record w { caller = put w.caller p (record here { phase = Looks mine (q + 1) batch }) }
  after_gathering w p here mine q batch true =
      let k : ℕ = length here.seen in
      record w {
        round = put w.round k (L.consensus.begin p batch (w.round k));
        caller = put w.caller p (record here { phase = Runs mine });
      }

  -- process p, with this call pending, reads the announcement of process q
  abbrev pub after_look : World R → ℕ → Caller → Entry → ℕ → Batch → World R
  after_look w p here mine q batch = after_gathering w p here mine q
      (batch_with (w.announced q) (entries_of_batches here.seen) q batch) (q + 1 == L.processes)

  -- the next move of a process that has decided x in slot k: its call is over if x holds it or if
  -- no slot is left; else it looks for the next slot
  abbrev pub phase_after : ℕ → Entry → Batch → Phase
  phase_after k mine x =
      if has x mine then Idle else (if k + 1 == L.capacity then Idle else first_look mine)

  abbrev pub record_after : List Batch → Entry → Batch → List Note → List Note
  record_after seen mine x notes =
      if has x mine
      then Replied mine (length seen) (response_in seen x mine) ∷ notes
      else (if length seen + 1 == L.capacity then FoundFull mine ∷ notes else notes)

  -- after a step in its round, process p replays the batch if it has decided one there
  abbrev pub after_decision : World R → ℕ → Caller → Entry → Option Batch → World R
  after_decision w p here mine None = w
  after_decision w p here mine (Some x) =
      record w {
        caller = put w.caller p (record {
          seen = here.seen ++ x ∷ [];
          calls = here.calls;
          phase = phase_after (length here.seen) mine x;
        });
        history = record_after here.seen mine x w.history;
      }

  -- one step of process p in the round of its slot
  abbrev pub after_run : World R → ℕ → Caller → Entry → World R
  after_run w p here mine =
      let k : ℕ = length here.seen in
      let r : R = L.consensus.step p (w.round k) in
      after_decision (record w { round = put w.round k r }) p here mine (L.consensus.decided r p)

  abbrev pub after_step : World R → ℕ → Caller → Phase → World R
  after_step w p here Idle = w
  after_step w p here (Looks mine q batch) = after_look w p here mine q batch
  after_step w p here (Runs mine) = after_run w p here mine

  -- one event
  abbrev pub after_event : World R → Event → World R
  after_event w (Invoke p operation) = after_invoke w p operation (w.caller p)
  after_event w (Step p) = after_step w p (w.caller p) (w.caller p).phase

  -- one event after the other
  abbrev pub after_events : List Event → World R → World R
  after_events [] w = w
  after_events (e ∷ es) w = after_events es (after_event w e)

  -- the world before any event
  abbrev pub first_world : World R
  first_world = record {
    round = λ k. L.untouched;
    announced = λ p. None;
    caller = λ p. record { seen = []; calls = 0; phase = Idle };
    history = [];
  }

  -- the state after these events
  abbrev pub state_of : List Event → World R
  state_of events = after_events events first_world

  -- process p can make a call of operation o: both exist, p is in no call, and p has not
  -- replayed every slot
  pub record MayInvoke (w : World R) (p o : ℕ) : Type 0 where
    pub process : p < L.processes
    pub operation : o < length L.object.operations
    pub idle : (w.caller p).phase ≡ Idle
    pub not_at_end : length (w.caller p).seen < L.capacity

  -- process p can take a step: it exists and is in a call
  pub record MayStep (w : World R) (p : ℕ) : Type 0 where
    pub process : p < L.processes
    pub in_call : (w.caller p).phase ≢ Idle

  -- the event can come next
  abbrev pub MayCome : World R → Event → Type 0
  MayCome w (Invoke p operation) = MayInvoke w p operation
  MayCome w (Step p) = MayStep w p

  abbrev pub MayAllCome : List Event → World R → Type 0
  MayAllCome [] w = Unit {0}
  MayAllCome (e ∷ es) w = MayCome w e × MayAllCome es (after_event w e)

  -- each event of the list can come at its place
  abbrev pub IsEventList : List Event → Type 0
  IsEventList events = MayAllCome events first_world

  -- the batches of the fixed slots after these events, in order
  abbrev pub batches : List Event → List Batch
  batches events = batches_of (state_of events)

  -- the entries of the fixed slots after these events, in order
  abbrev pub entries : List Event → List Entry
  entries events = entries_of (state_of events)

  -- the answer of a process that has replayed these batches, with this call pending, once it
  -- has decided: the call is answered with its slot
  -- and its response if the decided batch holds it
  abbrev pub answer_with : List Batch → Entry → Option Batch → StepAnswer
  answer_with seen mine None = Working
  answer_with seen mine (Some x) =
      if has x mine
      then Answered (length seen) (record { 0 = response_in seen x mine })
      else (if length seen + 1 == L.capacity then Full else Working)

  abbrev pub answer_from : World R → ℕ → Caller → Phase → StepAnswer
  answer_from w p here Idle = Working
  answer_from w p here (Looks mine q batch) = Working
  answer_from w p here (Runs mine) = answer_with here.seen mine
      (L.consensus.decided (L.consensus.step p (w.round (length here.seen))) p)

  -- the answer of a step of process p after these events
  abbrev pub answer : List Event → ℕ → StepAnswer
  answer events p = answer_from (state_of events) p ((state_of events).caller p)
      ((state_of events).caller p).phase
