-- Every list of events is linearized.
use Rattle.std.proofs.Common.{ℕ, zero, suc, ◌≡◌, ◌≢◌, ◌⊎◌, inl, inr, Bool, true, false, ◌+◌, ◌<◌, ◌≤◌, ◌==◌, List, [], ◌∷◌, ◌++◌, length, take, drop, slice_get, Option, Some, None, refl, sym, ap, ◌∙◌, subst, arith, if◌then◌else◌, length-append}
use Rattle.std.proofs.lemmas.Bool.{cases_eq}
use Rattle.cn_table.specs.declared.elements.Response.{Response}
use Rattle.cn_log.specs.declared.batch.Batch.{Batch}
use Rattle.cn_log.specs.declared.entry.Entry.{Entry}
use Rattle.cn_log.specs.Batches.{HoldsEntry, has, entry_at, members, entries_in}
use Rattle.cn_log.specs.declared.event.Event.{Event}
use Rattle.cn_log.specs.declared.event.Event.TheVariants.{Invoke, Step}
use Rattle.cn_log.specs.declared.event.StepAnswer.TheVariants.{Working, Answered, Full}
use Rattle.cn_log.specs.declared.caller_state.Phase.{Phase}
use Rattle.cn_log.specs.declared.caller_state.Phase.TheVariants.{Idle, Looks, Runs}
use Rattle.cn_log.specs.Agreement.{RoundsAgree}
use Rattle.cn_log.specs.Log.{Setting, World, Caller, Note, Called, Replied, FoundFull, put, batch_with, batches_of, response_in, after_events, after_event, after_gathering, after_step, after_decision, first_world, state_of, MayInvoke, MayCome, MayAllCome, IsEventList, batches, entries, answer_from, answer_with}
use Rattle.cn_log.specs.Linearized.{calls_of, IsCall, IsStepOf, IsAnswered, FindsFull, IsInSlot, StandsIn, entry_slots, IsLinearized, BeginsInTurn, Grows}
use Rattle.cn_log.specs.Linearized.{Stands as StandsAt}
use Rattle.cn_log.proofs.ListLemmas.EntryPositions.{slot_of, before, in_entries, front, members_in_order, slots_in_order, entries_put}
use Rattle.cn_log.specs.Bypass.{fixed_before, IsBypassBounded}
use Rattle.cn_log.proofs.ListLemmas.Places.{put_same, put_other, there_is, get_low, take_front}
use Rattle.cn_log.proofs.InvariantLemmas.Invariant.{IsNoted, IsCalled, IsPending, PhaseHolds, Holds, Facts, Stands, IsReply, fixed_begun, stands_once, in_order}
use Rattle.cn_log.proofs.InvariantLemmas.Invocations.{keeps_events, facts_events, keeps_event}
use Rattle.cn_log.proofs.InvariantLemmas.Bypasses.{first_holds, first_facts, none_left_out, bypass, bypass_none}
use Rattle.cn_log.proofs.ListLemmas.EventLists.{get_take, get_take_low, take_take, split_at, number_once, run_append, may_left, may_right}
use Rattle.cn_log.proofs.InvariantLemmas.Notes.{noted_run, calls_run, noted_invoked}
use Rattle.cn_log.proofs.ListLemmas.EntryLists.{entry_fixed, fixed_entry, all_fixed, entries_few, entries_stay, response_there}

module _ {R : Type 0} (L : Setting R) (Good : R → Type 0) (agrees : RoundsAgree L Good) where
  abbrev IsSafe : World R → Type 0
  IsSafe w = Holds L Good w

  pub holds_after : (events : List Event) → IsEventList L events → IsSafe (state_of L events)
  holds_after events may = keeps_events L Good agrees events (first_world L) (first_holds L Good agrees) may

  pub facts_after : (events : List Event) → IsEventList L events → Facts L (state_of L events)
  facts_after events may = facts_events L Good agrees events (first_world L) (first_holds L Good agrees) (first_facts L Good agrees) may

  pub prefix_may : (before rest : List Event) → IsEventList L (before ++ rest) → IsEventList L before
  prefix_may before rest may = may_left L before rest (first_world L) may

  abbrev next : World R → Event → World R
  next w e = after_event L w e

  -- fixed values stay
  abbrev Stay : World R → World R → Type 0
  Stay w w' = (k : ℕ) (y : Batch) → L.consensus.fixed (w.round k) ≡ Some y → L.consensus.fixed (w'.round k) ≡ Some y

  stay_put : (w : World R) (k0 k : ℕ) (r : R) (y : Batch) → (L.consensus.fixed (w.round k0) ≡ Some y → L.consensus.fixed r ≡ Some y) → (k ≡ k0) ⊎ (k ≢ k0) → L.consensus.fixed (w.round k) ≡ Some y
      → L.consensus.fixed (put w.round k0 r k) ≡ Some y
  stay_put w k0 k r y now (inl same) h = rw (same, put_same w.round k0 r) (now (rw same at h))
  stay_put w k0 k r y now (inr ne) h = rw (put_other w.round k0 r k ne) h

  cases_nat : (a b : ℕ) → (a ≡ b) ⊎ (a ≢ b)
  cases_nat a b = cases_eq a b

  replayed_round : (w : World R) (p : ℕ) (here : Caller) (mine : Entry) (o : Option Batch) → (after_decision L w p here mine o).round ≡ w.round
  replayed_round w p here mine None = refl
  replayed_round w p here mine (Some x) = refl

  stay_gathered : (w : World R) (p : ℕ) (here : Caller) (mine : Entry) (q : ℕ) (batch : Batch) (b : Bool) → Stay w (after_gathering L w p here mine q batch b)
  stay_gathered w p here mine q batch false k y h = h
  stay_gathered w p here mine q batch true k y h =
      let r : R = L.consensus.begin p batch (w.round (length here.seen)) in
      stay_put w (length here.seen) k r y (λ g. agrees.quiet (w.round (length here.seen)) p batch ∙ g) (cases_nat k (length here.seen)) h

  stay_stepped : (w : World R) (p : ℕ) → p < L.processes → IsSafe w → (here : Caller) (ph : Phase) → Stay w (after_step L w p here ph)
  stay_stepped w p lt holds here Idle k y h = h
  stay_stepped w p lt holds here (Looks mine q batch) k y h = stay_gathered w p here mine q (batch_with (w.announced q) (entries_in L.processes here.seen) q batch) (q + 1 == L.processes) k y h
  stay_stepped w p lt holds here (Runs mine) k y h =
      let r = L.consensus.step p (w.round (length here.seen)) in
      let same = replayed_round (record w { round = put w.round (length here.seen) r }) p here mine (L.consensus.decided r p) in
      rw same (stay_put w (length here.seen) k r y (λ g. agrees.keeps (w.round (length here.seen)) p y lt (holds.good (length here.seen)) g) (cases_nat k (length here.seen)) h)

  stay_next : (w : World R) → IsSafe w → (e : Event) → MayCome L w e → Stay w (next w e)
  stay_next w holds (Invoke p operation) may k y h = h
  stay_next w holds (Step p) may k y h = stay_stepped w p may.process holds (w.caller p) (w.caller p).phase k y h

  stay_run : (events : List Event) (w : World R) → IsSafe w → MayAllCome L events w → Stay w (after_events L events w)
  stay_run [] w holds may k y h = h
  stay_run (e ∷ events) w holds may k y h =
      stay_run events (next w e) (keeps_event L Good agrees w holds e may.0) may.1 k y (stay_next w holds e may.0 k y h)

  pub grows : (before after : List Event) → IsEventList L (before ++ after) → Grows L before after
  grows before after may =
      let all = run_append L before after (first_world L) in
      let holds = holds_after before (prefix_may before after may) in
      let rest = may_right L before after (first_world L) may in
      let more = entries_stay L (state_of L before).round (after_events L after (state_of L before)).round (stay_run after (state_of L before) holds rest) L.capacity 0 in
      (entries_in L.processes more.0, ap (λ (z : World R). entries_in L.processes (batches_of L z)) all ∙ ap (entries_in L.processes) more.1 ∙ entries_put L.processes (batches L before) more.0)

  -- a step that answers or ends a call leaves its note
  abbrev LeftBy : World R → ℕ → Caller → Phase → (Entry → Note) → Type 0
  LeftBy w p here ph note = (mine : Entry) × (ph ≡ Runs mine) × ((after_step L w p here ph).history ≡ note mine ∷ w.history)

  answer_noted : (w : World R) (p : ℕ) (here : Caller) (ph : Phase) (slot response : ℕ) → answer_from L w p here ph ≡ Answered slot (record { 0 = response })
      → LeftBy w p here ph (λ mine. Replied mine slot response)
  answer_noted w p here Idle slot response h = absurd cc
  answer_noted w p here (Looks mine q batch) slot response h = absurd cc
  answer_noted w p here (Runs mine) slot response h = (mine, refl, with_it (L.consensus.decided r p) h)
    where
      r : R
      r = L.consensus.step p (w.round (length here.seen))

      w1 : World R
      w1 = record w { round = put w.round (length here.seen) r }

      with_it : (o : Option Batch) → answer_with L here.seen mine o ≡ Answered slot (record { 0 = response }) → (after_decision L w1 p here mine o).history ≡ Replied mine slot response ∷ w.history
      with_it None h = absurd cc
      with_it (Some x) h = go (has x mine) (length here.seen + 1 == L.capacity) h
        where
          go : (b d : Bool) → (if b then Answered (length here.seen) (record { 0 = response_in L here.seen x mine }) else (if d then Full else Working)) ≡ Answered slot (record { 0 = response })
              → (if b then Replied mine (length here.seen) (response_in L here.seen x mine) ∷ w.history else (if d then FoundFull mine ∷ w.history else w.history)) ≡ Replied mine
              slot response ∷ w.history
          go true d g = let a : length here.seen ≡ slot = cc in let s : (let z : Response = record { 0 = response_in L here.seen x mine } in z) ≡ record { 0 = response } = cc in
              let b : response_in L here.seen x mine ≡ response = ap (λ (z : Response). z.0) s in rw (a, b) refl
          go false true g = absurd cc
          go false false g = absurd cc

  full_noted : (w : World R) (p : ℕ) (here : Caller) (ph : Phase) → answer_from L w p here ph ≡ Full → LeftBy w p here ph (λ mine. FoundFull mine)
  full_noted w p here Idle h = absurd cc
  full_noted w p here (Looks mine q batch) h = absurd cc
  full_noted w p here (Runs mine) h = (mine, refl, with_it (L.consensus.decided r p) h)
    where
      r : R
      r = L.consensus.step p (w.round (length here.seen))

      w1 : World R
      w1 = record w { round = put w.round (length here.seen) r }

      with_it : (o : Option Batch) → answer_with L here.seen mine o ≡ Full → (after_decision L w1 p here mine o).history ≡ FoundFull mine ∷ w.history
      with_it None h = absurd cc
      with_it (Some x) h = go (has x mine) (length here.seen + 1 == L.capacity) h
        where
          go : (b d : Bool) → (if b then Answered (length here.seen) (record { 0 = response_in L here.seen x mine }) else (if d then Full else Working)) ≡ Full
              → (if b then Replied mine (length here.seen) (response_in L here.seen x mine) ∷ w.history else (if d then FoundFull mine ∷ w.history else w.history)) ≡ FoundFull mine ∷ w.history
          go true d g = absurd cc
          go false true g = refl
          go false false g = absurd cc

  -- a call is an event
  pub called_event : (events : List Event) (e : Entry) → IsCalled e (state_of L events).history → (i : ℕ) × IsCall events i e
  called_event events e c = elim (noted_invoked L e c.since events (first_world L) c.noted) [
    | inl old ↦ absurd (let g = old.there in cc g)
    | inr new ↦ (new.at, record { invoke = new.invoke; number = (let m = new.number in omega arith) })
  ]

  -- the pending entry is the call of the step
  pending_is : (events : List Event) (i : ℕ) (e mine : Entry) → IsStepOf events i e → IsPending L (state_of L (take i events)) e.process mine → mine ≡ e
  pending_is events i e mine step pending =
      let made = called_event (take i events) mine pending.called in
      let calls = calls_run L (take i events) (first_world L) e.process in
      let number = pending.call in
      let last = step.last in
      let call : mine.call ≡ e.call = omega arith in
      let p = pending.process in
      let low = get_take_low events i made.0 _ made.1.invoke in
      let there : slice_get events made.0 ≡ Some (Invoke e.process mine.operation.0) = sym (get_take events i made.0 low) ∙ made.1.invoke ∙ ap (λ q. Some (Invoke q mine.operation.0)) p in
      let counted : mine.call ≡ calls_of e.process (take made.0 events) = made.1.number ∙ ap (λ q. calls_of q (take made.0 (take i events))) p
      ∙ ap (calls_of e.process) (take_take events i made.0 (omega arith)) in
      let operation = number_once events e.process mine.operation.0 e.operation.0 made.0 step.call there step.is.invoke (sym counted ∙ call ∙ step.is.number) in
      λ j. record { process = p j; operation = record { 0 = operation j }; call = call j }

  -- the state at a step, and the one after it
  module _ (events : List Event) (may : IsEventList L events) (i : ℕ) (event : Event) (at : slice_get events i ≡ Some event) where
    pub here_may : IsEventList L (take i events)
    here_may = prefix_may (take i events) (event ∷ drop (suc i) events) (rw (← split_at events i event at) may)

    pub event_may : MayCome L (state_of L (take i events)) event
    event_may = (may_right L (take i events) (event ∷ drop (suc i) events) (first_world L) (rw (← split_at events i event at) may)).0

    pub whole : state_of L events ≡ after_events L (drop (suc i) events) (next (state_of L (take i events)) event)
    whole = ap (state_of L) (split_at events i event at) ∙ run_append L (take i events) (event ∷ drop (suc i) events) (first_world L)

    noted_later : (note : Note) → IsNoted note (next (state_of L (take i events)) event).history → IsNoted note (state_of L events).history
    noted_later note h = rw whole (noted_run L note (drop (suc i) events) (next (state_of L (take i events)) event) h)

  runs_pending : (w : World R) (p : ℕ) → IsSafe w → (mine : Entry) → (w.caller p).phase ≡ Runs mine → IsPending L w p mine
  runs_pending w p holds mine is = let h : PhaseHolds L w p (Runs mine) = rw is at (holds.phases p) in h

  left_note : (events : List Event) → IsEventList L events → (i : ℕ) (e : Entry) → IsStepOf events i e → (note : Entry → Note)
      → LeftBy (state_of L (take i events)) e.process ((state_of L (take i events)).caller e.process) ((state_of L (take i events)).caller e.process).phase note
      → IsNoted (note e) (state_of L events).history
  left_note events may i e step note left =
      let holds = holds_after (take i events) (here_may events may i (Step e.process) step.step) in
      let same = pending_is events i e left.0 step (runs_pending (state_of L (take i events)) e.process holds left.0 left.1) in
      noted_later events may i (Step e.process) step.step (note e) (record { place = zero; there = rw (left.2, same) refl })

  pub answered_note : (events : List Event) → IsEventList L events → (i : ℕ) (e : Entry) (slot response : ℕ) → IsAnswered L events i e slot response
      → IsNoted (Replied e slot response) (state_of L events).history
  answered_note events may i e slot response a =
      let w = state_of L (take i events) in
      left_note events may i e a.step (λ mine. Replied mine slot response) (answer_noted w e.process (w.caller e.process) (w.caller e.process).phase slot response a.answers)

  pub ended_note : (events : List Event) → IsEventList L events → (i : ℕ) (e : Entry) → FindsFull L events i e → IsNoted (FoundFull e) (state_of L events).history
  ended_note events may i e a =
      let w = state_of L (take i events) in
      left_note events may i e a.step (λ mine. FoundFull mine) (full_noted w e.process (w.caller e.process) (w.caller e.process).phase a.answers)

  -- an answer within a prefix
  earlier_answer : (events : List Event) (i j : ℕ) (e : Entry) (slot response : ℕ) → i < j → IsAnswered L events i e slot response → IsAnswered L (take j events) i e slot response
  earlier_answer events i j e slot response less a =
      let s = a.step in
      let b = s.before in
      let t : take i (take j events) ≡ take i events = take_take events j i (omega arith) in
      record {
        step = record {
          call = s.call;
          before = s.before;
          is = record { invoke = get_take events j s.call (omega arith) ∙ s.is.invoke; number = s.is.number ∙ ap (calls_of e.process) (sym (take_take events j s.call (omega arith))) };
          last = rw t s.last;
          step = get_take events j i less ∙ s.step;
        };
        answers = rw t a.answers;
      }

  module _ (events : List Event) (may : IsEventList L events) where
    abbrev w : World R
    w = state_of L events

    pub holds_now : IsSafe w
    holds_now = holds_after events may

    pub facts_now : Facts L w
    facts_now = facts_after events may

    -- a batch of the log is that of its slot
    pub fixed_of : (k : ℕ) (x : Batch) → slice_get (batches L events) k ≡ Some x → L.consensus.fixed (w.round k) ≡ Some x
    fixed_of k x h = let z : 0 + k ≡ k = omega arith in rw z at (entry_fixed L w.round L.capacity 0 k x h).1

    pub batch_of : (k : ℕ) (x : Batch) → k < L.capacity → L.consensus.fixed (w.round k) ≡ Some x → slice_get (batches L events) k ≡ Some x
    batch_of k x less h =
        let z : 0 + k ≡ k = omega arith in
        fixed_entry L w.round L.capacity 0 k x less (λ j l. (let z : 0 + j ≡ j = omega arith in rw z (in_order L Good agrees w holds_now j k x l h))) (rw z h)

    room_of : (k : ℕ) (x : Batch) → slice_get (batches L events) k ≡ Some x → k < L.capacity
    room_of k x h = (entry_fixed L w.round L.capacity 0 k x h).0

    -- an entry at a place is in the slot of this place
    pub record IsThere (place : ℕ) (e : Entry) : Type 0 where
      pub slot : ℕ
      pub batch : Batch
      pub there : slice_get (batches L events) slot ≡ Some batch
      pub at : entry_at batch e.process ≡ Some e
      pub low : e.process < L.processes
      pub place_is : place ≡ length (entries_in L.processes (take slot (batches L events))) + length (members e.process 0 batch)
      pub told : slice_get (entry_slots L events) place ≡ Some slot

    pub there_of : (place : ℕ) (e : Entry) → StandsAt L events place e → IsThere place e
    there_of place e h =
        let r = slot_of L.processes 0 (batches L events) place e h in
        let s = (fixed_begun L Good agrees w holds_now r.0 r.1 (fixed_of r.0 r.1 r.3)).shaped r.2 e r.5 in
        let z : 0 + r.0 ≡ r.0 = omega arith in
        record {
          slot = r.0;
          batch = r.1;
          there = r.3;
          at = subst (λ q. entry_at r.1 q ≡ Some e) (sym s) r.5;
          low = subst (λ q. q < L.processes) (sym s) r.4;
          place_is = r.6 ∙ ap (λ q. length (entries_in L.processes (take r.0 (batches L events))) + length (members q 0 r.1)) (sym s);
          told = r.7 ∙ ap Some z;
        }

    pub stands_there : (place : ℕ) (e : Entry) (t : IsThere place e) → Stands L w e t.slot
    stands_there place e t = record { batch = t.batch; fixed = fixed_of t.slot t.batch t.there; has = t.at }

    -- the place of an entry in a slot
    pub record HasPlace (e : Entry) (k : ℕ) : Type 0 where
      pub place : ℕ
      pub stands : StandsIn L events place k e

    slots_agree : (place k : ℕ) (e : Entry) → (t : IsThere place e) → slice_get (entry_slots L events) place ≡ Some k → t.slot ≡ k
    slots_agree place k e t h = let a = t.told in cc (a, h)

    -- an entry has one place
    pub one_place : (j k : ℕ) (e : Entry) → IsThere j e → IsThere k e → j ≡ k
    one_place j k e a b =
        let same : a.slot ≡ b.slot = stands_once L Good agrees w holds_now a.slot b.slot e (stands_there j e a) (stands_there k e b) in
        let g : slice_get (batches L events) a.slot ≡ Some b.batch = ap (slice_get (batches L events)) same ∙ b.there in
        let h = a.there in
        let one : a.batch ≡ b.batch = cc (g, h) in
        a.place_is ∙ ap (λ s. length (entries_in L.processes (take s (batches L events))) + length (members e.process 0 a.batch)) same
        ∙ ap (λ (z : Batch). length (entries_in L.processes (take b.slot (batches L events))) + length (members e.process 0 z)) one ∙ sym b.place_is

    -- an entry in a slot has a place
    pub place_of : (e : Entry) (k : ℕ) → e.process < L.processes → k < L.capacity → Stands L w e k → HasPlace e k
    place_of e k low less s =
        let there = batch_of k s.batch less s.fixed in
        let bs = batches L events in
        let at = in_entries L.processes bs k s.batch e.process e there low s.has in
        let t = there_of _ e at in
        let same : t.slot ≡ k = stands_once L Good agrees w holds_now t.slot k e (stands_there _ e t) s in
        record { place = _; stands = record { stands = at; slot = t.told ∙ ap Some same } }

    later_place : (a b j k : ℕ) (e f : Entry) → StandsIn L events a j e → StandsIn L events b k f → j < k → a < b
    later_place a b j k e f h g less =
        let s = there_of a e h.stands in
        let t = there_of b f g.stands in
        let x = slots_agree a j e s h.slot in
        let y = slots_agree b k f t g.slot in
        let l = slots_in_order L.processes (batches L events) s.slot t.slot s.batch t.batch e.process f.process e s.there t.there (omega (arith, x, y, less)) s.low s.at in
        let p = s.place_is in
        let q = t.place_is in
        omega (arith, l, p, q)

    -- two entries in one slot are in one batch
    one_batch : (a b k : ℕ) (e f : Entry) (h : StandsIn L events a k e) (g : StandsIn L events b k f)
        → ((there_of a e h.stands).slot ≡ (there_of b f g.stands).slot) × ((there_of a e h.stands).batch ≡ (there_of b f g.stands).batch)
    one_batch a b k e f h g =
        let s = there_of a e h.stands in
        let t = there_of b f g.stands in
        let same : s.slot ≡ t.slot = slots_agree a k e s h.slot ∙ sym (slots_agree b k f t g.slot) in
        let got : Some s.batch ≡ Some t.batch = sym s.there ∙ ap (slice_get (batches L events)) same ∙ t.there in
        (same, cc)

    one_each : (a b k : ℕ) (e f : Entry) → StandsIn L events a k e → StandsIn L events b k f → e.process ≡ f.process → e ≡ f
    one_each a b k e f h g same =
        let s = there_of a e h.stands in
        let t = there_of b f g.stands in
        let got : Some e ≡ Some f = sym s.at ∙ ap (entry_at s.batch) same ∙ ap (λ (x : Batch). entry_at x f.process) (one_batch a b k e f h g).1 ∙ t.at in
        cc

    by_process : (a b k : ℕ) (e f : Entry) → StandsIn L events a k e → StandsIn L events b k f → e.process < f.process → a < b
    by_process a b k e f h g less =
        let s = there_of a e h.stands in
        let t = there_of b f g.stands in
        let one = one_batch a b k e f h g in
        let x : length (entries_in L.processes (take s.slot (batches L events))) ≡ length (entries_in L.processes (take t.slot (batches L events))) =
        ap (λ i. length (entries_in L.processes (take i (batches L events)))) one.0 in
        let y : length (members f.process 0 s.batch) ≡ length (members f.process 0 t.batch) = ap (λ (z : Batch). length (members f.process 0 z)) one.1 in
        let l = members_in_order s.batch e.process f.process e less s.at in
        let p = s.place_is in
        let q = t.place_is in
        omega (arith, l, p, q, x, y)

    pub called_low : (e : Entry) → IsCalled e w.history → e.process < L.processes
    called_low e c = let i = called_event events e c in
        (let m : MayInvoke L (state_of L (take i.0 events)) e.process e.operation.0 = event_may events may i.0 (Invoke e.process e.operation.0) i.1.invoke in m.process)

    reply_of : (e : Entry) (slot response : ℕ) → IsReply L w e slot response → IsInSlot L events e slot response
    reply_of e slot response r =
        let b = r.stands.batch in
        let has = r.stands.has in
        let called = (fixed_begun L Good agrees w holds_now slot b r.stands.fixed).called e has in
        let low = called_low e called in
        let bs = batches L events in
        let there = batch_of slot b r.within r.stands.fixed in
        let at = in_entries L.processes bs slot b e.process e there low has in
        let t = there_of _ e at in
        let same : t.slot ≡ slot = stands_once L Good agrees w holds_now t.slot slot e (stands_there _ e t) r.stands in
        let many = r.many in
        let is : take slot bs ≡ r.before = ap (λ z. take z bs) (sym many)
        ∙ take_front r.before bs (λ j x h. batch_of j x (let l = get_low r.before j x h in let wi = r.within in omega (arith, l, wi, many)) (r.are j x h)) in
        let f = before L.processes bs slot b e.process e there low has in
        let len : length f ≡ length (entries_in L.processes (take slot bs)) + length (members e.process 0 b) = length-append (entries_in L.processes (take slot bs)) (members e.process 0 b) in
        let there' = response_there L.object f (entries L events) L.start _ e len (front L.processes bs slot b e.process e there low has) at in
        record {
          place = _;
          stands = record { stands = at; slot = t.told ∙ ap Some same };
          reply = there' ∙ ap (λ (z : List Batch). Some (response_in L z b e)) is ∙ ap Some (sym r.reply);
        }

    -- a call is on record, with the number of slots fixed when it was made
    pub call_noted : (j : ℕ) (f : Entry) → IsCall events j f → IsNoted (Called f (length (batches_of L (state_of L (take j events))))) w.history
    call_noted j f c =
        let at_j = state_of L (take j events) in
        let top = length (batches_of L at_j) in
        let number : (at_j.caller f.process).calls ≡ f.call = (let r = calls_run L (take j events) (first_world L) f.process in let m = c.number in omega arith) in
        let is : (let g : Entry = record { process = f.process; operation = f.operation; call = (at_j.caller f.process).calls } in g) ≡ f =
        λ m. record { process = f.process; operation = f.operation; call = number m } in
        noted_later events may j (Invoke f.process f.operation.0) c.invoke (Called f top) (record { place = zero; there = ap (λ (g : Entry). Some (Called g top)) is })

    pub call_may : (j : ℕ) (f : Entry) → IsCall events j f → f.process < L.processes
    call_may j f c = let m : MayInvoke L (state_of L (take j events)) f.process f.operation.0 = event_may events may j (Invoke f.process f.operation.0) c.invoke in m.process

    -- a call names an operation of the object, and a process
    pub known_operation : (e : Entry) → IsCalled e w.history → e.operation.0 < length L.object.operations
    known_operation e called =
        let c = called_event events e called in
        let m : MayInvoke L (state_of L (take c.0 events)) e.process e.operation.0 = event_may events may c.0 (Invoke e.process e.operation.0) c.1.invoke in
        m.operation

    pub in_turn : BeginsInTurn L events
    in_turn = record { before = λ k p x h j less. (holds_now.begun k p x h).turn j less }

    stands_nowhere : (e : Entry) → e.process < L.processes → ((k : ℕ) → StandsAt L events k e → ⊥) → (k : ℕ) → k < L.capacity → Stands L w e k → ⊥
    stands_nowhere e low none k less s = let p = place_of e k low less s in none p.place p.stands.stands

    waits : (i : ℕ) (e : Entry) → IsCall events i e → ((k : ℕ) → StandsAt L events k e → ⊥) → length (batches L events) ≤ fixed_before L events i + 1
    waits i e c none = elim (cases_le L.capacity (fixed_before L events i + 1)) [
      | inl short ↦ (let few = entries_few L w.round L.capacity 0 in omega arith)
      | inr room ↦ (let o = bypass_none L Good agrees w holds_now facts_now e (fixed_before L events i) (call_noted i e c) (call_may i e c)
          (stands_nowhere e (call_may i e c) none) room in not_beyond room o)
    ]
      where
        cases_le : (a b : ℕ) → (a ≤ b) ⊎ (b < a)
        cases_le a b = grind arith

        not_beyond : fixed_before L events i + 1 < L.capacity → L.consensus.fixed (w.round (fixed_before L events i + 1)) ≡ None → length (batches L events) ≤ fixed_before L events i + 1
        not_beyond room o = elim (cases_le (length (batches L events)) (fixed_before L events i + 1)) [
          | inl le ↦ le
          | inr more ↦ (let x = there_is (batches L events) (fixed_before L events i + 1) more in let f = fixed_of (fixed_before L events i + 1) x.0 x.1 in absurd (cc (f, o)))
        ]

    stands_in : (place k : ℕ) (e : Entry) → StandsIn L events place k e → (k < L.capacity) × Stands L w e k
    stands_in place k e h =
        let t = there_of place e h.stands in
        let same = slots_agree place k e t h.slot in
        subst (λ z. (z < L.capacity) × Stands L w e z) same (room_of t.slot t.batch t.there, stands_there place e t)

    pub bypass_bounded : IsBypassBounded L events
    bypass_bounded = record {
      stands = λ i place k e c h. (let s = stands_in place k e h in bypass L Good agrees w holds_now facts_now e (fixed_before L events i) k (call_noted i e c) (call_may i e c) s.0 s.1);
      waits = waits;
    }

    before_call : (i j : ℕ) (e f : Entry) (slot response place k : ℕ) → IsAnswered L events i e slot response → IsCall events j f → i < j → StandsIn L events place k f → slot < k
    before_call i j e f slot response place k a c less h =
        let at_j = state_of L (take j events) in
        let made : Event = Invoke f.process f.operation.0 in
        let may_j = here_may events may j made c.invoke in
        let top = length (batches_of L at_j) in
        let noted = call_noted j f c in
        let facts_j = facts_events L Good agrees (made ∷ []) at_j (holds_after (take j events) may_j) (facts_after (take j events) may_j) (event_may events may j made c.invoke, tt) in
        let old = answered_note (take j events) may_j i e slot response (earlier_answer events i j e slot response less a) in
        let low = facts_j.ordered.0 e slot response old in
        let high = facts_now.stood f top k noted (stands_in place k f h).1 in
        omega arith

    no_slot : (i : ℕ) (e : Entry) → FindsFull L events i e → (length (batches L events) ≡ L.capacity) × ((k : ℕ) → StandsAt L events k e → ⊥)
    no_slot i e a =
        let all = facts_now.ended e (ended_note events may i e a) in (
          all_fixed L w.round L.capacity 0 (λ k less. (let z : 0 + k ≡ k = omega arith in rw z ((all k less).batch, (all k less).fixed))),
          λ k h. (let t = there_of k e h in let o = all t.slot (room_of t.slot t.batch t.there) in let f = o.fixed in let g = fixed_of t.slot t.batch t.there in
              let same : t.batch ≡ o.batch = cc (f, g) in
              o.other (subst (λ (z : Batch). HoldsEntry z e) same t.at)),
        )

    ordered_calls : (k : ℕ) (e : Entry) (call : ℕ) → StandsAt L events k e → call < e.call → (j : ℕ) × (f : Entry) × (j < k) × (f.process ≡ e.process) × (f.call ≡ call) × StandsAt L events j f
    ordered_calls k e call h less =
        let t = there_of k e h in
        let r = none_left_out L Good agrees w holds_now facts_now e t.slot call (stands_there k e t) less in
        let room = room_of t.slot t.batch t.there in
        let l : r.1 < t.slot = r.4 in
        let low : r.0.process < L.processes = subst (λ q. q < L.processes) (sym r.2) t.low in
        let p = place_of r.0 r.1 low (omega (arith, room, l)) r.5 in
        (p.place, r.0, later_place p.place k r.1 t.slot r.0 e p.stands (record { stands = h; slot = t.told }) l, r.2, r.3, p.stands.stands)

    pub called_of : (k : ℕ) (e : Entry) → StandsAt L events k e → (i : ℕ) × IsCall events i e
    called_of k e h = let t = there_of k e h in called_event events e ((fixed_begun L Good agrees w holds_now t.slot t.batch (fixed_of t.slot t.batch t.there)).called e t.at)

    pub linearized : IsLinearized L events
    linearized = record {
      answered = λ i e slot response a. reply_of e slot response (facts_now.answered e slot response (answered_note events may i e slot response a));
      called = called_of;
      once = λ j k e hj hk. one_place j k e (there_of j e hj) (there_of k e hk);
      in_order = ordered_calls;
      real_time = before_call;
      full = no_slot;
      by_slot = later_place;
      by_process = by_process;
      one_each = one_each;
      slots = λ place e h. (let t = there_of place e h in (t.slot, get_low (batches L events) t.slot t.batch t.there, record { stands = h; slot = t.told }));
    }
