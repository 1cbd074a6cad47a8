-- The knowledge of a process about a log, its change by events, and the calls of a process.
use Rattle.std.specs.Prelude.{ℕ, ◌≡◌, ◌≢◌, ◌⊎◌, ◌+◌, ◌<◌, ◌==◌, if◌then◌else◌, List, [], ◌∷◌, ◌++◌}
use Rattle.std.specs.Prelude.{length, slice_get, Option, Some, None}
use Rattle.std.specs.List.{filter}
use Rattle.cn_table.specs.TypeTable.{TypeTable}
use Rattle.cn_log.specs.declared.entry.Entry.{Entry}
use Rattle.cn_log.specs.declared.batch.Batch.{Batch}
use Rattle.cn_log.specs.declared.event.Event.{Event}
use Rattle.cn_log.specs.declared.event.Event.TheVariants.{Invoke, Step}
use Rattle.cn_log.specs.declared.event.StepAnswer.{StepAnswer}
use Rattle.cn_log.specs.declared.event.StepAnswer.TheVariants.{Working, Answered, Full}
use Rattle.cn_log.specs.declared.caller_state.Phase.{Phase}
use Rattle.cn_log.specs.declared.caller_state.Phase.TheVariants.{Idle, Looks, Runs}
use Rattle.cn_log.specs.Batches.{HoldsEntry, entry_at, members}
use Rattle.cn_log.specs.Linearized.{calls_of}
use Rattle.cn_log.specs.Log.{Setting, Caller, state_of, response_in, entries_of_batches}

-- the first list begins with the second
abbrev pub BeginsWith : {A : Type 0} → List A → List A → Type 0
BeginsWith {A} list front = (rest : List A) × (list ≡ front ++ rest)

-- the property holds of each element
abbrev pub Every : {A : Type 0} → (A → Type 0) → List A → Type 0
Every P [] = Unit {0}
Every P (x ∷ xs) = P x × Every P xs

-- the process of an event
abbrev pub process_of : Event → ℕ
process_of (Invoke p operation) = p
process_of (Step p) = p

-- no event of the list is one of the process
abbrev pub HasNoEventOf : ℕ → List Event → Type 0
HasNoEventOf p events = Every (λ e. process_of e ≢ p) events

-- the response of an answer is one of the object's
abbrev pub HasResponse : TypeTable → StepAnswer → Type 0
HasResponse t Working = Unit {0}
HasResponse t (Answered slot response) = response.0 < length t.responses
HasResponse t Full = Unit {0}

-- the call that is pending in a phase
abbrev pub pending_in : Phase → Option Entry
pending_in Idle = None
pending_in (Looks mine q batch) = Some mine
pending_in (Runs mine) = Some mine

-- call number k of process p, of this operation
abbrev pub call_of : ℕ → ℕ → ℕ → Entry
call_of p operation k = record { process = p; operation = record { 0 = operation }; call = k }

-- the calls that process p makes in these events, in order, numbered from k on
abbrev pub calls_from : ℕ → ℕ → List Event → List Entry
calls_from p k [] = []
calls_from p k (Invoke q operation ∷ events) =
    if q == p then call_of p operation k ∷ calls_from p (k + 1) events else calls_from p k events
calls_from p k (Step q ∷ events) = calls_from p k events

-- the calls that process p makes in these events, in order
abbrev pub calls_by : ℕ → List Event → List Entry
calls_by p events = calls_from p 0 events

-- the entries of process p among these, in order
abbrev pub entries_by : ℕ → List Entry → List Entry
entries_by p entries = filter (λ (e : Entry). e.process == p) entries

-- the entry is in none of the batches
abbrev pub IsUnseen : List Batch → Entry → Type 0
IsUnseen batches e = (k : ℕ) (b : Batch) → slice_get batches k ≡ Some b → HoldsEntry b e → ⊥

module _ {R : Type 0} (L : Setting R) where
  -- the process has replayed one more batch, without an entry of its own
  pub record SeesOther (p : ℕ) (before after : Caller) : Type 0 where
    pub batch : Batch
    pub seen : after.seen ≡ before.seen ++ batch ∷ []
    pub none : entry_at batch p ≡ None
    pub own : entries_by p (members L.processes 0 batch) ≡ []

  -- a step of process p after which its call goes on
  pub record CallGoesOn (p : ℕ) (before : Caller) (mine : Entry) (after : Caller) : Type 0 where
    pub pending : pending_in after.phase ≡ Some mine
    pub calls : after.calls ≡ before.calls
    pub seen : (after.seen ≡ before.seen) ⊎ SeesOther p before after

  -- the knowledge of process p after these events
  abbrev pub caller_of : List Event → ℕ → Caller
  caller_of events p = (state_of L events).caller p

  -- the entries that process p has replayed, in log order
  abbrev pub seen_of : List Event → ℕ → List Entry
  seen_of events p = entries_of_batches L (caller_of events p).seen

  -- the pending call of process p: the last that it has made; the process has replayed neither
  -- this call nor every slot
  pub record IsPendingCall (events : List Event) (p : ℕ) (mine : Entry) : Type 0 where
    pub process : mine.process ≡ p
    pub last : mine.call + 1 ≡ calls_of p events
    pub unseen : IsUnseen (caller_of events p).seen mine
    pub room : length (caller_of events p).seen < L.capacity

  -- a step that answers the pending call: the process replays it in the batch of the next slot,
  -- with the response of one sequential run at its place there
  pub record EndsAnswered (p : ℕ) (before : Caller) (mine : Entry) (after : Caller)
      (k given : ℕ) : Type 0 where
    pub idle : after.phase ≡ Idle
    pub calls : after.calls ≡ before.calls
    pub batch : Batch
    pub seen : after.seen ≡ before.seen ++ batch ∷ []
    pub there : entry_at batch p ≡ Some mine
    pub own : entries_by p (members L.processes 0 batch) ≡ mine ∷ []
    pub slot : k ≡ length before.seen
    pub response : given ≡ response_in L before.seen batch mine

  -- a step of process p that ends the pending call without an answer: the process has replayed
  -- every slot, and none holds the call
  pub record EndsFull (p : ℕ) (before : Caller) (mine : Entry) (after : Caller) : Type 0 where
    pub idle : after.phase ≡ Idle
    pub calls : after.calls ≡ before.calls
    pub seen : SeesOther p before after
    pub all : length after.seen ≡ L.capacity
    pub unseen : IsUnseen after.seen mine

  -- the change of the knowledge of process p by a step with this call pending, for each answer
  abbrev pub IsStepped : ℕ → Caller → Entry → Caller → StepAnswer → Type 0
  IsStepped p before mine after Working = CallGoesOn p before mine after
  IsStepped p before mine after (Answered slot response) =
      EndsAnswered p before mine after slot response.0
  IsStepped p before mine after Full = EndsFull p before mine after

  -- the calls without an answer: the one that the process is in; else none, or one that is in
  -- no slot, if the process has replayed every slot
  abbrev pub IsUnanswered : Caller → Phase → List Entry → Type 0
  IsUnanswered here Idle calls = (calls ≡ [])
      ⊎ ((length here.seen ≡ L.capacity) × (e : Entry) × (calls ≡ e ∷ []) × IsUnseen here.seen e)
  IsUnanswered here (Looks mine q batch) calls = calls ≡ mine ∷ []
  IsUnanswered here (Runs mine) calls = calls ≡ mine ∷ []

  -- the calls of process p are its own entries that it has replayed, then those without an answer
  abbrev pub HasReplayedItsOwn : List Event → ℕ → Type 0
  HasReplayedItsOwn events p = (rest : List Entry)
      × (calls_by p events ≡ entries_by p (seen_of events p) ++ rest)
      × IsUnanswered (caller_of events p) (caller_of events p).phase rest

  -- the same after a step of process p with this call pending, for each answer
  abbrev pub HasReplayedBy : List Event → ℕ → Entry → StepAnswer → Type 0
  HasReplayedBy events p mine Working =
      calls_by p events ≡ entries_by p (seen_of events p) ++ mine ∷ []
  HasReplayedBy events p mine (Answered slot response) =
      calls_by p events ≡ entries_by p (seen_of events p)
  HasReplayedBy events p mine Full =
      calls_by p events ≡ entries_by p (seen_of events p) ++ mine ∷ []
