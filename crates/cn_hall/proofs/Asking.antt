-- The questions to a gate, and the steps between them.
use Rattle.std.proofs.Common.{◌≡◌, ℕ, zero, suc, Bool, true, false, ◌+◌, ◌*◌, ◌-◌, ◌<◌, ◌≤◌, ◌==◌, List, [], ◌∷◌, ◌++◌, drop, length, Some, inl, inr, refl, sym, ap, ◌∙◌, subst, arith, cond, append_assoc, append-nil, length-append}
use Rattle.std.proofs.lemmas.Bool.Decides.{nat_tests}
use Rattle.std.proofs.Math.Nat.{mul-le-mul_left}
use Rattle.cn_log.specs.Callers.{BeginsWith, HasNoEventOf}
use Rattle.cn_log.specs.Opening.{IsOpening, Log, Opening, setting_of}
use Rattle.cn_log.specs.Log.{IsEventList}
use Rattle.cn_log.specs.OwnSteps.{event_room, is_step_of, steps_of}
use Rattle.cn_log.specs.declared.entry.Entry.{Entry}
use Rattle.cn_log.specs.declared.event.Event.{Event}
use Rattle.cn_log.specs.declared.event.Event.TheVariants.{Invoke, Step}
use Rattle.cn_log.specs.declared.event.StepAnswer.{StepAnswer}
use Rattle.cn_proto.specs.Plan.{processes_of}
use Rattle.cn_hall.specs.Calls.{GoesOn, IsSameSeat}
use Rattle.cn_hall.specs.Gates.{HasTaken, IsAsked, LastIsOwn, steps_since}
use Rattle.cn_hall.specs.Seats.{SeatState, IsInvoke, IsLog, IsStep, pending}
use Rattle.cn_hall.specs.declared.call.Go.{Go}
use Rattle.cn_hall.specs.declared.call.Go.TheVariants.{On}
use Rattle.cn_hall.proofs.Callers.{begins_again}
use Rattle.cn_hall.proofs.Calling.{same_again}
use Rattle.cn_log.proofs.ListLemmas.OwnLists.{steps_cons}

drop_front : {A : Type 0} (xs ys : List A) → drop (length xs) (xs ++ ys) ≡ ys
drop_front [] [] = refl
drop_front [] (y ∷ ys) = refl
drop_front (x ∷ xs) ys = drop_front xs ys

steps_join : (p : ℕ) (xs ys : List Event) → steps_of p (xs ++ ys) ≡ steps_of p xs + steps_of p ys
steps_join p [] ys = let z : steps_of p [] ≡ 0 = refl in omega (arith, z)
steps_join p (x ∷ xs) ys = let a = steps_cons p x (xs ++ ys) in let b = steps_cons p x xs in let r = steps_join p xs ys in omega (arith, a, b, r)

steps_few : (p : ℕ) (events : List Event) → steps_of p events ≤ length events
steps_few p [] = let z : steps_of p [] ≡ 0 = refl in omega (arith, z)
steps_few p (e ∷ events) = go (is_step_of p e) (steps_cons p e events) (steps_few p events)
  where
    go : (b : Bool) → steps_of p (e ∷ events) ≡ cond b 1 0 + steps_of p events → steps_of p events ≤ length events → steps_of p (e ∷ events) ≤ length (e ∷ events)
    go true c few = omega (arith, c, few)
    go false c few = omega (arith, c, few)

steps_none : (p : ℕ) (events : List Event) → HasNoEventOf p events → steps_of p events ≡ 0
steps_none p [] h = refl
steps_none p (Invoke q operation ∷ events) h = let c : steps_of p (Invoke q operation ∷ events) ≡ 0 + steps_of p events = steps_cons p (Invoke q operation) events in
    let r = steps_none p events h.1 in omega (arith, c, r)
steps_none p (Step q ∷ events) h =
    let ne = h.0 in
    let t : (q == p) ≡ false = grind (arith, nat_tests) in
    let c : steps_of p (Step q ∷ events) ≡ 0 + steps_of p events = steps_cons p (Step q) events ∙ (rw t refl) in
    let r = steps_none p events h.1 in
    omega (arith, c, r)

step_one : (p : ℕ) → steps_of p (Step p ∷ []) ≡ 1
step_one p = let t : (p == p) ≡ true = grind (arith, nat_tests) in steps_cons p (Step p) [] ∙ (rw t refl)

-- the steps in the events since
since_is : (p : ℕ) (core now : Log) (rest : List Event) → now.schedule ≡ core.schedule ++ rest → steps_since p core now ≡ steps_of p rest
since_is p core now rest e = ap (λ l. steps_of p (drop (length core.schedule) l)) e ∙ ap (steps_of p) (drop_front core.schedule rest)

pub since_same : (p : ℕ) (core : Log) → steps_since p core core ≡ 0
since_same p core = since_is p core core [] (sym (append-nil core.schedule))

pub later_same : (core : Log) → BeginsWith core.schedule core.schedule
later_same core = ([], sym (append-nil core.schedule))

-- a step adds one
pub since_step : (p : ℕ) (core now next : Log) (x : StepAnswer) → BeginsWith now.schedule core.schedule → IsStep p now x next
    → (steps_since p core next ≡ suc (steps_since p core now)) × BeginsWith next.schedule core.schedule
since_step p core now next x h k =
    let r = k.1.1 in
    let e : next.schedule ≡ core.schedule ++ ((h.0 ++ r) ++ Step p ∷ []) = ap (λ (y : Log). y.schedule) k.2
    ∙ ap (λ l. l ++ Step p ∷ []) (k.1.2 ∙ ap (λ l. l ++ r) h.1 ∙ append_assoc core.schedule h.0 r)
    ∙ append_assoc core.schedule (h.0 ++ r) (Step p ∷ []) in
    let a = since_is p core next ((h.0 ++ r) ++ Step p ∷ []) e in
    let b = since_is p core now h.0 h.1 in
    let c = steps_join p (h.0 ++ r) (Step p ∷ []) in
    let d = steps_join p h.0 r in
    let n = steps_none p r k.1.3 in
    let o = step_one p in
    (omega (arith, a, b, c, d, n, o), ((h.0 ++ r) ++ Step p ∷ [], e))

pub core_later : (p : ℕ) (now next : Log) (x : StepAnswer) → IsStep p now x next → BeginsWith next.schedule now.schedule
core_later p now next x k = (since_step p now now next x (later_same now) k).1

-- a step of the process is the last event
pub last_stepped : (p : ℕ) (core now next : Log) (x : StepAnswer) → IsStep p now x next → LastIsOwn p core next
last_stepped p core now next x k = inr (k.0.schedule, Step p, refl, ap (λ (y : Log). y.schedule) k.2)

-- what is last since a call is last since the core before the call
last_from_invoke : (p operation : ℕ) (core mid now : Log) → IsInvoke p operation core mid → LastIsOwn p mid now → LastIsOwn p core now
last_from_invoke p operation core mid now k (inl same) =
    inr (k.0.schedule, Invoke p operation, refl, ap (λ (y : Log). y.schedule) same ∙ ap (λ (y : Log). y.schedule) k.2)
last_from_invoke p operation core mid now k (inr last) = inr last

-- a call adds none
since_invoke : (p operation : ℕ) (core mid now : Log) → IsInvoke p operation core mid → BeginsWith now.schedule mid.schedule
    → (steps_since p core now ≡ steps_since p mid now) × BeginsWith now.schedule core.schedule
since_invoke p operation core mid now k h =
    let r = k.1.1 in
    let m : mid.schedule ≡ core.schedule ++ (r ++ Invoke p operation ∷ []) = ap (λ (y : Log). y.schedule) k.2 ∙ ap (λ l. l ++ Invoke p operation ∷ []) k.1.2
    ∙ append_assoc core.schedule r (Invoke p operation ∷ []) in
    let e : now.schedule ≡ core.schedule ++ ((r ++ Invoke p operation ∷ []) ++ h.0) = h.1 ∙ ap (λ l. l ++ h.0) m ∙ append_assoc core.schedule (r ++ Invoke p operation ∷ []) h.0 in
    let a = since_is p core now ((r ++ Invoke p operation ∷ []) ++ h.0) e in
    let b = since_is p mid now h.0 h.1 in
    let c = steps_join p (r ++ Invoke p operation ∷ []) h.0 in
    let d = steps_join p r (Invoke p operation ∷ []) in
    let n = steps_none p r k.1.3 in
    let o : steps_of p (Invoke p operation ∷ []) ≡ 0 = refl in
    (omega (arith, a, b, c, d, n, o), ((r ++ Invoke p operation ∷ []) ++ h.0, e))

-- few enough events for a u32
abbrev pub Room : Type 0
Room = (o : Opening) (events : List Event) → IsOpening o → IsEventList (setting_of o) events → length events < event_room (processes_of o.plan) o.capacity

room_few : (n slots : ℕ) → n ≤ 8 → slots ≤ 1024 → event_room n slots ≤ 303112
room_few n slots a b =
    let c : 5 * n - 3 ≤ 37 = omega (arith, a) in
    let d : slots * (5 * n - 3) ≤ slots * 37 = mul-le-mul_left slots c in
    let e : slots * (5 * n - 3) + 1 ≤ 37889 = omega (arith, d, b) in
    let f : n * (slots * (5 * n - 3) + 1) ≤ n * 37889 = mul-le-mul_left n e in
    omega (arith, f, a)

pub since_few : Room → (p : ℕ) (core now : Log) → IsLog now → BeginsWith now.schedule core.schedule → steps_since p core now < 303112
since_few room p core now log h =
    let a = since_is p core now h.0 h.1 in
    let b = steps_few p h.0 in
    let c = ap length h.1 ∙ length-append core.schedule h.0 in
    let d = room now.opening now.schedule log.opening log.events in
    let e = room_few (processes_of now.opening.plan) now.opening.capacity log.opening.plan.fits.few log.opening.few in
    omega (arith, a, b, c, d, e)

-- the end may be later
taken_later : (mine : Entry) (k : ℕ) (start seat : SeatState) (end now : Log) → BeginsWith now.schedule end.schedule → HasTaken mine k start end seat → HasTaken mine k start now seat
taken_later mine k start seat end now more h =
    record { same = h.same; later = h.later; history = begins_again seat.core.schedule end.schedule now.schedule h.history more; pending = h.pending; steps = h.steps; last = h.last }

module _ {G : Type 0} (asks : G → SeatState → ℕ → G → Type 0) (says : G → Go) where
  asked_later : (mine : Entry) (start : SeatState) (end now : Log) → BeginsWith now.schedule end.schedule → (k : ℕ) (old new : G) → IsAsked asks says mine start end k old new
      → IsAsked asks says mine start now k old new
  asked_later mine start end now more zero old new h = h
  asked_later mine start end now more (suc k) old new h = (h.0, h.1, asked_later mine start end now more k old h.0 h.2, h.3, taken_later mine k start h.1 end now more h.4, h.5)

  -- one more question, about the next step of the seat
  pub asked_next : (mine : Entry) (start seat : SeatState) (now : Log) (k : ℕ) (old mid new : G) → IsSameSeat start seat → BeginsWith seat.core.schedule start.core.schedule
      → BeginsWith now.schedule seat.core.schedule → pending seat ≡ Some mine
      → steps_since start.process start.core seat.core ≡ k → LastIsOwn start.process start.core seat.core → IsAsked asks says mine start seat.core k old mid → says mid ≡ On
      → asks mid seat (k + 1) new → (m : ℕ) → m ≡ suc k → IsAsked asks says mine start now m old new
  asked_next mine start seat now k old mid new same later more is steps last asked on asks_it m e =
      let z : k + 1 ≡ suc k = omega arith in
      subst (λ n. IsAsked asks says mine start now n old new) (sym e) (
        mid,
        seat,
        asked_later mine start seat.core now more k old mid asked,
        on,
        record { same = same; later = later; history = more; pending = is; steps = steps; last = last },
        subst (λ n. asks mid seat n new) z asks_it,
      )

  taken_from : (a b seat : SeatState) (end : Log) (operation : ℕ) (mine : Entry) (k : ℕ) → IsSameSeat a b → IsInvoke a.process operation a.core b.core → HasTaken mine k b end seat
      → HasTaken mine k a end seat
  taken_from a b seat end operation mine k same invoke h =
      let s = since_invoke a.process operation a.core b.core seat.core invoke h.later in
      record {
        same = same_again a b seat same h.same;
        later = s.1;
        history = h.history;
        pending = h.pending;
        steps = s.0 ∙ ap (λ p. steps_since p b.core seat.core) (sym same.1) ∙ h.steps;
        last = last_from_invoke a.process operation a.core b.core seat.core invoke (subst (λ p. LastIsOwn p b.core seat.core) same.1 h.last);
      }

  -- the questions of a call, from its beginning on
  pub asked_from : (a b : SeatState) (end : Log) (operation : ℕ) (mine : Entry) → IsSameSeat a b → IsInvoke a.process operation a.core b.core → (k : ℕ) (old new : G)
      → IsAsked asks says mine b end k old new → IsAsked asks says mine a end k old new
  asked_from a b end operation mine same invoke zero old new h = h
  asked_from a b end operation mine same invoke (suc k) old new h =
      (h.0, h.1, asked_from a b end operation mine same invoke k old h.0 h.2, h.3, taken_from a b h.1 end operation mine k same invoke h.4, h.5)

  pub since_call : (a b d : SeatState) (operation : ℕ) → IsSameSeat a b → IsInvoke a.process operation a.core b.core → GoesOn b.process b.core d.core
      → steps_since b.process b.core d.core ≡ steps_since a.process a.core d.core
  since_call a b d operation same invoke goes = ap (λ p. steps_since p b.core d.core) same.1 ∙ sym (since_invoke a.process operation a.core b.core d.core invoke (goes.1, goes.2)).0
