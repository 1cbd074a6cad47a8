-- The notes of a log, and the events that they stand for.
use Rattle.std.proofs.Common.{ℕ, zero, suc, ◌≡◌, ◌≢◌, ◌⊎◌, inl, inr, Bool, true, false, ◌+◌, ◌==◌, List, [], ◌∷◌, length, take, slice_get, Option, Some, None, refl, ap, ◌∙◌, arith, cond, if◌then◌else◌}
use Rattle.std.proofs.lemmas.Bool.{cases_eq}
use Rattle.std.proofs.lemmas.Bool.Decides.{nat_tests}
use Rattle.cn_log.specs.declared.batch.Batch.{Batch}
use Rattle.cn_log.specs.declared.entry.Entry.{Entry}
use Rattle.cn_log.specs.Batches.{has, entries_in}
use Rattle.cn_log.specs.declared.event.Event.{Event}
use Rattle.cn_log.specs.declared.event.Event.TheVariants.{Invoke, Step}
use Rattle.cn_log.specs.Log.{Setting, World, Caller, Note, Called, Replied, FoundFull, put, batch_with, batches_of, after_events, after_event, after_gathering, after_step, after_decision, record_after, response_in}
use Rattle.cn_log.specs.declared.caller_state.Phase.{Phase}
use Rattle.cn_log.specs.declared.caller_state.Phase.TheVariants.{Idle, Looks, Runs}
use Rattle.cn_log.proofs.ListLemmas.Places.{put_same, put_other}
use Rattle.cn_log.proofs.InvariantLemmas.Invariant.{IsNoted}
use Rattle.cn_log.specs.Linearized.{is_call_of, calls_of}
use Rattle.cn_log.proofs.ListLemmas.EventLists.{calls_cons}

module _ {R : Type 0} (L : Setting R) where
  abbrev after : World R → Event → World R
  after w e = after_event L w e

  more : (note other : Note) (notes : List Note) → IsNoted note notes → IsNoted note (other ∷ notes)
  more note other notes h = record { place = suc h.place; there = h.there }

  noted_after : (note : Note) (seen : List Batch) (mine : Entry) (x : Batch) (notes : List Note) → IsNoted note notes → IsNoted note (record_after L seen mine x notes)
  noted_after note seen mine x notes h = go (has x mine) (length seen + 1 == L.capacity)
    where
      go : (b d : Bool) → IsNoted note (if b then Replied mine (length seen) (response_in L seen x mine) ∷ notes else (if d then FoundFull mine ∷ notes else notes))
      go true d = more note (Replied mine (length seen) (response_in L seen x mine)) notes h
      go false true = more note (FoundFull mine) notes h
      go false false = h

  noted_replayed : (note : Note) (w : World R) (p : ℕ) (here : Caller) (mine : Entry) (o : Option Batch) → IsNoted note w.history → IsNoted note (after_decision L w p here mine o).history
  noted_replayed note w p here mine None h = h
  noted_replayed note w p here mine (Some x) h = noted_after note here.seen mine x w.history h

  noted_gathered : (note : Note) (w : World R) (p : ℕ) (here : Caller) (mine : Entry) (q : ℕ) (batch : Batch) (b : Bool) → IsNoted note w.history
      → IsNoted note (after_gathering L w p here mine q batch b).history
  noted_gathered note w p here mine q batch true h = h
  noted_gathered note w p here mine q batch false h = h

  noted_stepped : (note : Note) (w : World R) (p : ℕ) (here : Caller) (ph : Phase) → IsNoted note w.history → IsNoted note (after_step L w p here ph).history
  noted_stepped note w p here Idle h = h
  noted_stepped note w p here (Looks mine q batch) h = noted_gathered note w p here mine q (batch_with (w.announced q) (entries_in L.processes here.seen) q batch) (q + 1 == L.processes) h
  noted_stepped note w p here (Runs mine) h =
      let r = L.consensus.step p (w.round (length here.seen)) in
      noted_replayed note (record w { round = put w.round (length here.seen) r }) p here mine (L.consensus.decided r p) h

  pub noted_happens : (note : Note) (w : World R) (e : Event) → IsNoted note w.history → IsNoted note (after w e).history
  noted_happens note w (Invoke p operation) h = more note (Called (record { process = p; operation = record { 0 = operation }; call = (w.caller p).calls }) (length (batches_of L w))) w.history h
  noted_happens note w (Step p) h = noted_stepped note w p (w.caller p) (w.caller p).phase h

  pub noted_run : (note : Note) (events : List Event) (w : World R) → IsNoted note w.history → IsNoted note (after_events L events w).history
  noted_run note [] w h = h
  noted_run note (e ∷ events) w h = noted_run note events (after w e) (noted_happens note w e h)

  -- calls are counted
  calls_put : (w : World R) (p q : ℕ) (s : Caller) → s.calls ≡ (w.caller p).calls → (put w.caller p s q).calls ≡ (w.caller q).calls
  calls_put w p q s h = elim (cases_eq q p) [
    | inl f ↦ rw (f, put_same w.caller p s) h
    | inr ne ↦ rw (put_other w.caller p s q ne) refl
  ]

  calls_replayed : (w : World R) (p q : ℕ) (mine : Entry) (o : Option Batch) → ((after_decision L w p (w.caller p) mine o).caller q).calls ≡ (w.caller q).calls
  calls_replayed w p q mine None = refl
  calls_replayed w p q mine (Some x) = calls_put w p q _ refl

  calls_gathered : (w : World R) (p q : ℕ) (mine : Entry) (i : ℕ) (batch : Batch) (b : Bool) → ((after_gathering L w p (w.caller p) mine i batch b).caller q).calls ≡ (w.caller q).calls
  calls_gathered w p q mine i batch true = calls_put w p q _ refl
  calls_gathered w p q mine i batch false = calls_put w p q _ refl

  calls_stepped : (w : World R) (p q : ℕ) (ph : Phase) → ((after_step L w p (w.caller p) ph).caller q).calls ≡ (w.caller q).calls
  calls_stepped w p q Idle = refl
  calls_stepped w p q (Looks mine i batch) = calls_gathered w p q mine i (batch_with (w.announced i) (entries_in L.processes (w.caller p).seen) i batch) (i + 1 == L.processes)
  calls_stepped w p q (Runs mine) =
      let r = L.consensus.step p (w.round (length (w.caller p).seen)) in
      calls_replayed (record w { round = put w.round (length (w.caller p).seen) r }) p q mine (L.consensus.decided r p)

  calls_happens : (w : World R) (q : ℕ) (e : Event) → ((after w e).caller q).calls ≡ (w.caller q).calls + cond (is_call_of q e) 1 0
  calls_happens w q (Step p) = calls_stepped w p q (w.caller p).phase ∙ (omega arith)
  calls_happens w q (Invoke p operation) = elim (cases_eq q p) [
    | inl f ↦ (let t : (p == q) ≡ true = grind (arith, nat_tests) in rw (t, f, put_same w.caller p _) (omega arith))
    | inr ne ↦ (let t : (p == q) ≡ false = grind (arith, nat_tests) in rw (t, put_other w.caller p _ q ne) (omega arith))
  ]

  pub calls_run : (events : List Event) (w : World R) (q : ℕ) → ((after_events L events w).caller q).calls ≡ (w.caller q).calls + calls_of q events
  calls_run [] w q = let z : calls_of q [] ≡ 0 = refl in omega arith
  calls_run (e ∷ events) w q =
      let rest = calls_run events (after w e) q in
      let now = calls_happens w q e in
      let count = calls_cons q e events in
      omega arith

  -- a call on record is an event
  pub record IsInvoked (events : List Event) (w : World R) (e : Entry) : Type 0 where
    pub at : ℕ
    pub invoke : slice_get events at ≡ Some (Invoke e.process e.operation.0)
    pub number : e.call ≡ (w.caller e.process).calls + calls_of e.process (take at events)

  noted_not_after : (e : Entry) (since : ℕ) (seen : List Batch) (mine : Entry) (x : Batch) (notes : List Note) → IsNoted (Called e since) (record_after L seen mine x notes)
      → IsNoted (Called e since) notes
  noted_not_after e since seen mine x notes h = go (has x mine) (length seen + 1 == L.capacity) h
    where
      skip : (other : Note) → (other ≢ Called e since) → (k : ℕ) → slice_get (other ∷ notes) k ≡ Some (Called e since) → IsNoted (Called e since) notes
      skip other ne zero g = absurd (ne cc)
      skip other ne (suc k) g = record { place = k; there = g }

      go : (b d : Bool) → IsNoted (Called e since) (if b then Replied mine (length seen) (response_in L seen x mine) ∷ notes else (if d then FoundFull mine ∷ notes else notes))
          → IsNoted (Called e since) notes
      go true d h = skip (Replied mine (length seen) (response_in L seen x mine)) (λ s. cc s) h.place h.there
      go false true h = skip (FoundFull mine) (λ s. cc s) h.place h.there
      go false false h = h

  noted_not_replayed : (e : Entry) (since : ℕ) (w : World R) (p : ℕ) (here : Caller) (mine : Entry) (o : Option Batch)
      → IsNoted (Called e since) (after_decision L w p here mine o).history → IsNoted (Called e since) w.history
  noted_not_replayed e since w p here mine None h = h
  noted_not_replayed e since w p here mine (Some x) h = noted_not_after e since here.seen mine x w.history h

  noted_not_gathered : (e : Entry) (since : ℕ) (w : World R) (p : ℕ) (here : Caller) (mine : Entry) (q : ℕ) (batch : Batch) (b : Bool)
      → IsNoted (Called e since) (after_gathering L w p here mine q batch b).history → IsNoted (Called e since) w.history
  noted_not_gathered e since w p here mine q batch true h = h
  noted_not_gathered e since w p here mine q batch false h = h

  noted_not_stepped : (e : Entry) (since : ℕ) (w : World R) (p : ℕ) (here : Caller) (ph : Phase) → IsNoted (Called e since) (after_step L w p here ph).history → IsNoted (Called e since) w.history
  noted_not_stepped e since w p here Idle h = h
  noted_not_stepped e since w p here (Looks mine q batch) h = noted_not_gathered e since w p here mine q (batch_with (w.announced q) (entries_in L.processes here.seen) q batch)
      (q + 1 == L.processes) h
  noted_not_stepped e since w p here (Runs mine) h =
      let r = L.consensus.step p (w.round (length here.seen)) in
      noted_not_replayed e since (record w { round = put w.round (length here.seen) r }) p here mine (L.consensus.decided r p) h

  invoked_cases : (e : Entry) (since : ℕ) (w : World R) (event : Event) → IsNoted (Called e since) (after w event).history
      → IsNoted (Called e since) w.history ⊎ ((event ≡ Invoke e.process e.operation.0) × (e.call ≡ (w.caller e.process).calls))
  invoked_cases e since w (Step p) h = inl (noted_not_stepped e since w p (w.caller p) (w.caller p).phase h)
  invoked_cases e since w (Invoke p operation) h = at h.place h.there
    where
      now : Entry
      now = record { process = p; operation = record { 0 = operation }; call = (w.caller p).calls }

      at : (k : ℕ) → slice_get (Called now (length (batches_of L w)) ∷ w.history) k ≡ Some (Called e since)
          → IsNoted (Called e since) w.history ⊎ ((Invoke p operation ≡ Invoke e.process e.operation.0) × (e.call ≡ (w.caller e.process).calls))
      at zero g =
          let same : now ≡ e = cc in
          inr (ap (λ (z : Entry). Invoke z.process z.operation.0) same, rw (← same) refl)
      at (suc k) g = inl (record { place = k; there = g })

  pub noted_invoked : (e : Entry) (since : ℕ) (events : List Event) (w : World R) → IsNoted (Called e since) (after_events L events w).history
      → IsNoted (Called e since) w.history ⊎ IsInvoked events w e
  noted_invoked e since [] w h = inl h
  noted_invoked e since (event ∷ events) w h = elim (noted_invoked e since events (after w event) h) [
    | inl was ↦ elim (invoked_cases e since w event was) [
      | inl before ↦ inl before
      | inr now ↦ inr (record { at = zero; invoke = ap Some now.0; number = (let z : calls_of e.process [] ≡ 0 = refl in let c = now.1 in omega arith) })
    ]
    | inr later ↦ inr (record {
      at = suc later.at;
      invoke = later.invoke;
      number = (let a = later.number in let b = calls_happens w e.process event in let c = calls_cons e.process event (take later.at events) in omega arith);
    })
  ]
