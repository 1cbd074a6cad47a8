-- A linearized log: for every list of events, the answers are those of one sequential run of the
-- calls, in the order of the log.
use Rattle.std.specs.Prelude.{ℕ, ◌≡◌, ◌+◌, ◌<◌, ◌==◌, Bool, false, List, ◌++◌, length, take}
use Rattle.std.specs.Prelude.{slice_get, count_by, Some}
use Rattle.cn_table.specs.Run.{responses_along}
use Rattle.cn_log.specs.declared.entry.Entry.{Entry}
use Rattle.cn_log.specs.declared.event.Event.{Event}
use Rattle.cn_log.specs.declared.event.Event.TheVariants.{Invoke, Step}
use Rattle.cn_log.specs.declared.event.StepAnswer.TheVariants.{Answered, Full}
use Rattle.cn_log.specs.declared.batch.Batch.{Batch}
use Rattle.cn_log.specs.Batches.{slots_from}
use Rattle.cn_log.specs.Log.{Setting, state_of, batches, entries, answer, operations_of}

-- the event is a call of process p
abbrev pub is_call_of : ℕ → Event → Bool
is_call_of p (Invoke q operation) = q == p
is_call_of p (Step q) = false

-- the number of calls that process p makes in these events
abbrev pub calls_of : ℕ → List Event → ℕ
calls_of p events = count_by (is_call_of p) events

-- event i makes this call: an Invoke of its process with its operation; the call's number is the
-- number of calls that the process made before
pub record IsCall (events : List Event) (i : ℕ) (e : Entry) : Type 0 where
  pub invoke : slice_get events i ≡ Some (Invoke e.process e.operation.0)
  pub number : e.call ≡ calls_of e.process (take i events)

-- event i is a step of the process of this call, and the call is the last that it made before
pub record IsStepOf (events : List Event) (i : ℕ) (e : Entry) : Type 0 where
  pub call : ℕ
  pub before : call < i
  pub is : IsCall events call e
  pub last : calls_of e.process (take i events) ≡ e.call + 1
  pub step : slice_get events i ≡ Some (Step e.process)

module _ {R : Type 0} (L : Setting R) (events : List Event) where
  -- event i is the step that answers the call with this slot and this response
  pub record IsAnswered (i : ℕ) (e : Entry) (slot response : ℕ) : Type 0 where
    pub step : IsStepOf events i e
    pub answers : answer L (take i events) e.process ≡ Answered slot (record { 0 = response })

  -- event i is the step that ends the call without an answer, since no slot is left
  pub record FindsFull (i : ℕ) (e : Entry) : Type 0 where
    pub step : IsStepOf events i e
    pub answers : answer L (take i events) e.process ≡ Full

  -- the entry stands at this place of the log
  abbrev pub Stands : ℕ → Entry → Type 0
  Stands place e = slice_get (entries L events) place ≡ Some e

  -- the slot of each entry
  abbrev pub entry_slots : List ℕ
  entry_slots = slots_from L.processes 0 (batches L events)

  -- the entry stands at this place, in slot k
  pub record StandsIn (place k : ℕ) (e : Entry) : Type 0 where
    pub stands : Stands place e
    pub slot : slice_get entry_slots place ≡ Some k

  -- the responses of one sequential run of all entries, in log order
  abbrev pub sequential_replies : List ℕ
  sequential_replies = responses_along L.object L.start (operations_of (entries L events))

  -- an answered call stands in the slot answered, and its response is that of the sequential run at
  -- its place there
  pub record IsInSlot (e : Entry) (slot response : ℕ) : Type 0 where
    pub place : ℕ
    pub stands : StandsIn place slot e
    pub reply : slice_get sequential_replies place ≡ Some response

  -- the log is linearized
  pub record IsLinearized : Type 0 where
    -- an answered call stands in the slot answered, with the response of the sequential run there
    pub answered : (i : ℕ) (e : Entry) (slot response : ℕ) → IsAnswered i e slot response
        → IsInSlot e slot response
    -- each entry is a call of the list, with its operation
    pub called : (k : ℕ) (e : Entry) → Stands k e → (i : ℕ) × IsCall events i e
    -- and no entry stands twice
    pub once : (j k : ℕ) (e : Entry) → Stands j e → Stands k e → j ≡ k
    -- before an entry stand all earlier calls of its process: they are in order, and none is left
    -- out
    pub in_order : (k : ℕ) (e : Entry) (call : ℕ) → Stands k e → call < e.call
        → (j : ℕ) × (f : Entry) × (j < k) × (f.process ≡ e.process)
        × (f.call ≡ call) × Stands j f
    -- a call that is answered before another is made stands before it, in an earlier slot
    pub real_time : (i j : ℕ) (e f : Entry) (slot response place k : ℕ)
        → IsAnswered i e slot response → IsCall events j f → i < j → StandsIn place k f
        → slot < k
    -- a call ends without an answer only if every slot is fixed and none holds it
    pub full : (i : ℕ) (e : Entry) → FindsFull i e
        → (length (batches L events) ≡ L.capacity) × ((k : ℕ) → Stands k e → ⊥)
    -- entries stand by slot: those of an earlier slot before those of a later one
    pub by_slot : (a b j k : ℕ) (e f : Entry) → StandsIn a j e → StandsIn b k f → j < k → a < b
    -- entries in a slot stand by process, at most one of each
    pub by_process : (a b k : ℕ) (e f : Entry) → StandsIn a k e → StandsIn b k f
        → e.process < f.process → a < b
    pub one_each : (a b k : ℕ) (e f : Entry) → StandsIn a k e → StandsIn b k f
        → e.process ≡ f.process → e ≡ f
    -- each entry has its slot, which is fixed
    pub slots : (place : ℕ) (e : Entry) → Stands place e
        → (k : ℕ) × (k < length (batches L events)) × StandsIn place k e

  -- slots come one after the other: a process begins in a slot only after every earlier slot is
  -- fixed
  pub record BeginsInTurn : Type 0 where
    pub before : (k p : ℕ) (x : Batch) → L.consensus.input ((state_of L events).round k) p ≡ Some x
        → (j : ℕ) → j < k → (y : Batch)
        × (L.consensus.fixed ((state_of L events).round j) ≡ Some y)

-- entries stay, and new ones come behind them
abbrev pub Grows : {R : Type 0} → Setting R → List Event → List Event → Type 0
Grows L before after =
    (rest : List Entry) × (entries L (before ++ after) ≡ entries L before ++ rest)
