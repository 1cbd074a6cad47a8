-- Faults of events, and of lists of events.
use Rattle.std.proofs.Common.{ℕ, ◌≡◌, ◌≢◌, ◌<◌, ◌↔◌, Bool, true, false, nat_lt, if◌then◌else◌, arith, List, ◌∷◌, ◌++◌, suc, drop, get_or, length, take, Some, None, refl, sym, ap, ◌∙◌, subst}
use Rattle.std.proofs.Math.Seq.{take-append_seam}
use Rattle.std.proofs.lemmas.Option.{slice_get-get_or}
use Rattle.std.proofs.lemmas.Bool.Decides.{nat_tests}
use Rattle.cn_log.specs.declared.event.Event.{Event}
use Rattle.cn_log.specs.declared.event.Event.TheVariants.{Invoke, Step}
use Rattle.cn_log.specs.declared.fault.EventFault.{EventFault}
use Rattle.cn_log.specs.declared.fault.EventFault.TheVariants.{NoSuchProcess, NoSuchOperation, AtEnd}
use Rattle.cn_log.specs.declared.caller_state.Phase.{Phase}
use Rattle.cn_log.specs.declared.caller_state.Phase.TheVariants.{Idle, Looks, Runs}
use Rattle.cn_log.specs.Faults.{invoke_fault, step_fault, event_fault, IsFirstEventFault}
use Rattle.cn_log.specs.Log.{Setting, World, Caller, MayInvoke, MayStep, MayCome, state_of, IsEventList}
use Rattle.cn_log.proofs.ListLemmas.EventLists.{split_at}
use Rattle.cn_log.proofs.ListLemmas.Places.{get_seam}

-- the fault of an event after these is that of the first event that cannot come, in each list that begins with these and the event
pub first_fault : {R : Type 0} (L : Setting R) (s rest : List Event) (event : Event) (fault : EventFault) → IsEventList L s → event_fault L (state_of L s) (length s) event ≡ Some fault
    → IsFirstEventFault L (s ++ event ∷ rest) fault
first_fault L s rest event fault may why = record {
  place = length s;
  event = event;
  before = subst (IsEventList L) (sym (take-append_seam s (event ∷ rest))) may;
  there = get_seam s event rest;
  why = ap (λ z. event_fault L (state_of L z) (length s) event) (take-append_seam s (event ∷ rest)) ∙ why;
}

-- so it is the fault of a list that begins with these and the event
pub first_in : {R : Type 0} (L : Setting R) (events : List Event) (k : ℕ) (d : Event) (s : List Event) (fault : EventFault) → s ≡ take k events → k < length events
    → ((rest : List Event) → IsFirstEventFault L (s ++ get_or events k d ∷ rest) fault) → IsFirstEventFault L events fault
first_in L events k d s fault is less first =
    let parted = ap (λ front. front ++ get_or events k d ∷ drop (suc k) events) is ∙ sym (split_at events k (get_or events k d) (slice_get-get_or events k d less)) in
    subst (λ (es : List Event). IsFirstEventFault L es fault) parted (first (drop (suc k) events))

-- no fault
invoke_none : (capacity i : ℕ) (here : Caller) (ph : Phase) → invoke_fault capacity i here ph ≡ None → (ph ≡ Idle) × (length here.seen < capacity)
invoke_none capacity i here Idle h = (refl, go (nat_lt (length here.seen) capacity) refl h)
  where
    go : (b : Bool) → nat_lt (length here.seen) capacity ≡ b → (if b then None else Some (AtEnd i)) ≡ None → length here.seen < capacity
    go true t h = grind (arith, nat_tests)
    go false t h = absurd cc
invoke_none capacity i here (Looks e q batch) h = absurd cc
invoke_none capacity i here (Runs e) h = absurd cc

none_invoke : (capacity i : ℕ) (here : Caller) (ph : Phase) → ph ≡ Idle → length here.seen < capacity → invoke_fault capacity i here ph ≡ None
none_invoke capacity i here Idle is less = let t : nat_lt (length here.seen) capacity ≡ true = grind (arith, nat_tests) in rw t refl
none_invoke capacity i here (Looks e q batch) is less = absurd (cc is)
none_invoke capacity i here (Runs e) is less = absurd (cc is)

step_none : (i : ℕ) (ph : Phase) → step_fault i ph ≡ None → ph ≢ Idle
step_none i Idle h = absurd cc
step_none i (Looks e q batch) h = λ is. cc is
step_none i (Runs e) h = λ is. cc is

none_step : (i : ℕ) (ph : Phase) → ph ≢ Idle → step_fault i ph ≡ None
none_step i Idle ne = absurd (ne refl)
none_step i (Looks e q batch) ne = refl
none_step i (Runs e) ne = refl

module _ {R : Type 0} (L : Setting R) (w : World R) (i : ℕ) where
  none_may : (e : Event) → event_fault L w i e ≡ None → MayCome L w e
  none_may (Invoke p o) h = go (nat_lt p L.processes) refl (nat_lt o (length L.object.operations)) refl h
    where
      go : (b : Bool) → nat_lt p L.processes ≡ b → (d : Bool) → nat_lt o (length L.object.operations) ≡ d
          → (if b then (if d then invoke_fault L.capacity i (w.caller p) (w.caller p).phase else Some (NoSuchOperation i)) else Some (NoSuchProcess i)) ≡ None → MayInvoke L w p o
      go true t true u h = let m = invoke_none L.capacity i (w.caller p) (w.caller p).phase h in
          record { process = grind (arith, nat_tests); operation = grind (arith, nat_tests); idle = m.0; not_at_end = m.1 }
      go true t false u h = absurd cc
      go false t d u h = absurd cc
  none_may (Step p) h = go (nat_lt p L.processes) refl h
    where
      go : (b : Bool) → nat_lt p L.processes ≡ b → (if b then step_fault i (w.caller p).phase else Some (NoSuchProcess i)) ≡ None → MayStep L w p
      go true t h = record { process = grind (arith, nat_tests); in_call = step_none i (w.caller p).phase h }
      go false t h = absurd cc

  may_none : (e : Event) → MayCome L w e → event_fault L w i e ≡ None
  may_none (Invoke p o) may =
      let a = may.process in let b = may.operation in
      let t : nat_lt p L.processes ≡ true = grind (arith, nat_tests) in
      let u : nat_lt o (length L.object.operations) ≡ true = grind (arith, nat_tests) in
      rw (t, u) (none_invoke L.capacity i (w.caller p) (w.caller p).phase may.idle may.not_at_end)
  may_none (Step p) may =
      let a = may.process in
      let t : nat_lt p L.processes ≡ true = grind (arith, nat_tests) in
      rw t (none_step i (w.caller p).phase may.in_call)

  -- an event has a fault exactly if it cannot come
  pub fault_or_may : (e : Event) → (event_fault L w i e ≡ None) ↔ MayCome L w e
  fault_or_may e = (none_may e, may_none e)
