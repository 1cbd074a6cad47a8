-- Atomic events: an event touches one announcement, or one object or register in the round of one
-- slot, and its effect depends on nothing else that is shared.
use Rattle.std.specs.Prelude.{ℕ, ◌≡◌, ◌≢◌, ◌+◌, ◌==◌, Bool, true, false, List, [], ◌∷◌, ◌++◌}
use Rattle.std.specs.Prelude.{length, Option, Some, None}
use Rattle.cn_proto.specs.Plan.{protocol_of, processes_of}
use Rattle.cn_proto.specs.Protocol.{place_of}
use Rattle.cn_agree.specs.AtomicStep.{SharedPart, Content, content, part_touched, ActsOnce}
use Rattle.cn_agree.specs.Rounds.{decision_at}
use Rattle.cn_agree.specs.Steps.{after_begin}
use Rattle.cn_agree.specs.World.{World as RoundWorld, node_at, local_at}
use Rattle.cn_agree.specs.declared.local.Local.{Local}
use Rattle.cn_agree.specs.declared.local.Local.TheVariants.{NotBegun, Active, Decided}
use Rattle.cn_agree.specs.declared.local.Stage.{Stage}
use Rattle.cn_log.specs.declared.batch.Batch.{Batch}
use Rattle.cn_log.specs.declared.entry.Entry.{Entry}
use Rattle.cn_log.specs.declared.event.Event.{Event}
use Rattle.cn_log.specs.declared.event.Event.TheVariants.{Invoke, Step}
use Rattle.cn_log.specs.declared.event.StepAnswer.{StepAnswer}
use Rattle.cn_log.specs.declared.caller_state.Phase.{Phase}
use Rattle.cn_log.specs.declared.caller_state.Phase.TheVariants.{Idle, Looks, Runs}
use Rattle.cn_log.specs.Callers.{call_of, process_of}
use Rattle.cn_log.specs.Log.{World, Caller, entries_of_batches, first_look, batch_with, state_of}
use Rattle.cn_log.specs.Log.{answer, IsEventList}
use Rattle.cn_log.specs.Opening.{Opening, setting_of}

-- the world of a log
abbrev pub LogWorld : Type 0
LogWorld = World (RoundWorld Batch)

-- the shared parts of a log: the announcement of each process, and in the round of each slot the
-- shared parts of each node
pub data LogPart : Type 0 where
  Announcement : ℕ → LogPart
  InRound : ℕ → ℕ → SharedPart → LogPart

-- the content of a part: the announced call, or the content of the part of the node
pub data LogContent : Type 0 where
  Announced : Option Entry → LogContent
  AtNode : Content Batch → LogContent

-- the local state of process p is the same: its knowledge of the log, and its local state in each
-- round
pub record IsSameLocally (p : ℕ) (w u : LogWorld) : Type 0 where
  pub caller : w.caller p ≡ u.caller p
  pub rounds : (k : ℕ) → local_at (w.round k) p ≡ local_at (u.round k) p

module _ (o : Opening) where
  abbrev pub log_content : LogWorld → LogPart → LogContent
  log_content w (Announcement q) = Announced (w.announced q)
  log_content w (InRound k v part) =
      AtNode (content (node_at (protocol_of o.plan) (w.round k) v) part)

  -- the part that process p touches in the round of slot k, by its local state there: the part that
  -- its next action touches
  abbrev pub touched_in : ℕ → ℕ → Local Batch → Option LogPart
  touched_in p k NotBegun = None
  touched_in p k (Active i x stage) = Some (InRound k (place_of (protocol_of o.plan) p i).node
      (part_touched (protocol_of o.plan) (place_of (protocol_of o.plan) p i) stage))
  touched_in p k (Decided y) = None

  -- the part that a step touches: a look touches the announcement that it reads, any other step
  -- what the next action in the round of the slot touches
  abbrev pub touched_by_step : LogWorld → ℕ → Caller → Phase → Option LogPart
  touched_by_step w p here Idle = None
  touched_by_step w p here (Looks mine q batch) = Some (Announcement q)
  touched_by_step w p here (Runs mine) =
      touched_in p (length here.seen) (local_at (w.round (length here.seen)) p)

  -- the part that an event touches; a call touches the announcement of its process
  abbrev pub touched_by : LogWorld → Event → Option LogPart
  touched_by w (Invoke p operation) = Some (Announcement p)
  touched_by w (Step p) = touched_by_step w p (w.caller p) (w.caller p).phase

  -- process p makes a call: it writes the call to its announcement, and looks for its slot next
  pub record Announces (w : LogWorld) (p operation : ℕ) (w' : LogWorld) : Type 0 where
    pub written : w'.announced p ≡ Some (call_of p operation (w.caller p).calls)
    pub rounds : (k : ℕ) → w'.round k ≡ w.round k
    pub caller : w'.caller p ≡ record {
      seen = (w.caller p).seen;
      calls = (w.caller p).calls + 1;
      phase = first_look (call_of p operation (w.caller p).calls);
    }

  -- after a look that is not the last, process p looks on with what it has gathered, and no round
  -- changes; after the last look it begins in the round of its slot, which is no step of the round,
  -- and runs there next
  abbrev pub LooksOn : LogWorld → ℕ → Caller → Entry → ℕ → Batch → Bool → LogWorld → Type 0
  LooksOn w p here mine q batch false w' =
      (w'.round (length here.seen) ≡ w.round (length here.seen))
      × (w'.caller p ≡ record here { phase = Looks mine (q + 1) batch })
  LooksOn w p here mine q batch true w' =
      (w'.round (length here.seen) ≡ after_begin p batch (w.round (length here.seen)))
      × (w'.caller p ≡ record here { phase = Runs mine })

  -- process p, with this call pending, looks at the announcement of process q: nothing that is
  -- shared changes
  pub record LooksOnce (w : LogWorld) (p : ℕ) (here : Caller) (mine : Entry) (q : ℕ) (batch : Batch)
      (w' : LogWorld) : Type 0 where
    pub shared : (part : LogPart) → log_content w' part ≡ log_content w part
    pub other_rounds : (k : ℕ) → k ≢ length here.seen → w'.round k ≡ w.round k
    pub goes_on : LooksOn w p here mine q (batch_with (w.announced q)
        (entries_of_batches (setting_of o) here.seen) q batch) (q + 1 == processes_of o.plan) w'

  -- process p runs in the round of its slot: it does one action there, and its knowledge of the log
  -- changes only if it decides by this action
  pub record ActsInRound (w : LogWorld) (p : ℕ) (here : Caller) (w' : LogWorld) : Type 0 where
    pub place : ℕ
    pub value : Batch
    pub stage : Stage
    pub is : local_at (w.round (length here.seen)) p ≡ Active place value stage
    pub action : ActsOnce (protocol_of o.plan) p place value stage (w.round (length here.seen))
        (w'.round (length here.seen))
    pub other_rounds : (k : ℕ) → k ≢ length here.seen → w'.round k ≡ w.round k
    pub undecided : decision_at (w'.round (length here.seen)) p ≡ None → w'.caller p ≡ here

  abbrev pub Steps : LogWorld → ℕ → Caller → Phase → LogWorld → Type 0
  Steps w p here Idle w' = ⊥
  Steps w p here (Looks mine q batch) w' = LooksOnce w p here mine q batch w'
  Steps w p here (Runs mine) w' = ActsInRound w p here w'

  -- the effect of an event
  abbrev pub Happens : LogWorld → Event → LogWorld → Type 0
  Happens w (Invoke p operation) w' = Announces w p operation w'
  Happens w (Step p) w' = Steps w p (w.caller p) (w.caller p).phase w'

  -- the answer of an event
  abbrev pub answer_to : List Event → Event → Option StepAnswer
  answer_to events (Invoke p operation) = None
  answer_to events (Step p) = Some (answer (setting_of o) events p)

  abbrev pub after : List Event → LogWorld
  after events = state_of (setting_of o) events

  -- two logs look alike to the process of the event: its local state is the same, and so is the
  -- part that the event touches
  pub record LogsLookAlike (events others : List Event) (e : Event) : Type 0 where
    pub local : IsSameLocally (process_of e) (after events) (after others)
    pub shared : (part : LogPart) → touched_by (after events) e ≡ Some part
        → log_content (after events) part ≡ log_content (after others) part

  -- the event is atomic after these events
  pub record IsAtomicEvent (events : List Event) (e : Event) : Type 0 where
    -- it touches one part of what is shared, and all other parts stay
    pub one_part : (part : LogPart) × (touched_by (after events) e ≡ Some part)
    pub other_parts : (part : LogPart) → touched_by (after events) e ≢ Some part
        → log_content (after (events ++ e ∷ [])) part ≡ log_content (after events) part
    pub other_processes : (q : ℕ) → q ≢ process_of e
        → IsSameLocally q (after (events ++ e ∷ [])) (after events)
    pub happens : Happens (after events) e (after (events ++ e ∷ []))
    -- it can come in every log that looks alike to its process; there it leads to the same local
    -- state, the same content of the part touched and the same answer
    pub comes : (others : List Event) → IsEventList (setting_of o) others
        → LogsLookAlike events others e → IsEventList (setting_of o) (others ++ e ∷ [])
    pub local : (others : List Event) → IsEventList (setting_of o) others
        → LogsLookAlike events others e
        → IsSameLocally (process_of e) (after (events ++ e ∷ [])) (after (others ++ e ∷ []))
    pub shared : (others : List Event) → IsEventList (setting_of o) others
        → LogsLookAlike events others e
        → (part : LogPart) → touched_by (after events) e ≡ Some part
        → log_content (after (events ++ e ∷ [])) part ≡ log_content (after (others ++ e ∷ [])) part
    pub answers : (others : List Event) → IsEventList (setting_of o) others
        → LogsLookAlike events others e → answer_to events e ≡ answer_to others e
