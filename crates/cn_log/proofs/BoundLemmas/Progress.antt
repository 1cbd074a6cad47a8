-- Each step advances a process.
use Rattle.std.proofs.Common.{ℕ, zero, suc, ◌≡◌, ◌≢◌, ◌⊎◌, inl, inr, Bool, true, false, ◌+◌, ◌-◌, ◌*◌, ◌<◌, ◌≤◌, ◌==◌, List, [], ◌∷◌, ◌++◌, length, take, drop, slice_get, Option, Some, None, refl, sym, ap, ◌∙◌, subst, arith, cond, if◌then◌else◌, length-append}
use Rattle.std.proofs.lemmas.Bool.{cases_eq}
use Rattle.std.proofs.lemmas.Bool.Decides.{nat_tests}
use Rattle.std.proofs.lemmas.List.Sums.{sum_by-cons}
use Rattle.std.proofs.Math.Nat.{add-mul, mul-add, mul-one, mul-le-mul_right, zero-mul}
use Rattle.cn_log.specs.declared.batch.Batch.{Batch}
use Rattle.cn_log.specs.declared.entry.Entry.{Entry}
use Rattle.cn_log.specs.declared.event.Event.{Event}
use Rattle.cn_log.specs.declared.event.Event.TheVariants.{Invoke, Step}
use Rattle.cn_log.specs.declared.caller_state.Phase.{Phase}
use Rattle.cn_log.specs.declared.caller_state.Phase.TheVariants.{Idle, Looks, Runs}
use Rattle.cn_log.specs.Agreement.{RoundsAgree}
use Rattle.cn_log.specs.Batches.{entries_in}
use Rattle.cn_log.specs.Bypass.{fixed_before}
use Rattle.cn_log.specs.Callers.{caller_of, pending_in, process_of}
use Rattle.cn_log.specs.Linearized.{IsCall}
use Rattle.cn_log.specs.Log.{Setting, World, Caller, put, batch_with, batches, first_look, phase_after, after_gathering, after_decision, after_run, after_step, after_event, after_events, first_world, state_of, MayCome, MayAllCome, IsEventList}
use Rattle.cn_log.specs.OwnSteps.{steps_of, is_step_of, event_room}
use Rattle.cn_log.proofs.InvariantLemmas.Bypasses.{pending_low, first_holds}
use Rattle.cn_log.proofs.ListLemmas.EventLists.{run_append, may_right, split_at}
use Rattle.cn_log.proofs.InvariantLemmas.Invariant.{IsRuns, IsPending, IsLooking, PhaseHolds, Holds}
use Rattle.cn_log.proofs.InvariantLemmas.Invocations.{keeps_event}
use Rattle.cn_log.proofs.InvariantLemmas.Linearization.{holds_after, facts_after, prefix_may, call_noted, call_may, batch_of}
use Rattle.cn_log.proofs.ListLemmas.Places.{put_same, put_other, there_is, get_low}
use Rattle.cn_log.proofs.ListLemmas.OwnLists.{not_idle}

-- the weight of an event for process p: a call weighs a, and a step one
abbrev pub weight : ℕ → ℕ → Event → ℕ
weight a p (Invoke q operation) = if q == p then a else 0
weight a p (Step q) = if q == p then 1 else 0

-- the weight of these events for process p
abbrev pub spent : ℕ → ℕ → List Event → ℕ
spent a p [] = 0
spent a p (e ∷ events) = weight a p e + spent a p events

-- the most steps that a slot costs a process: a look at each announcement, and its steps of a round
abbrev pub slot_cost : ℕ → ℕ
slot_cost n = n + 4 * (n - 1)

module _ {R : Type 0} (L : Setting R) where
  -- the progress of a process in a call, if the call weighs a
  abbrev pub steps_into : ℕ → World R → ℕ → ℕ → Phase → ℕ
  steps_into a w p k Idle = 0
  steps_into a w p k (Looks mine q batch) = a + q
  steps_into a w p k (Runs mine) = a + (L.processes + L.consensus.taken (w.round k) p)

  -- the progress of a process; each slot that it has replayed weighs as much as a call and its most steps there
  abbrev pub distance_of : ℕ → World R → ℕ → ℕ
  distance_of a w p = length (w.caller p).seen * (slot_cost L.processes + a) + steps_into a w p (length (w.caller p).seen) (w.caller p).phase

  -- the weight of its events is at most the progress of a process
  abbrev pub IsPaced : ℕ → List Event → List Event → ℕ → Type 0
  IsPaced a before rest p = distance_of a (state_of L before) p + spent a p rest ≤ distance_of a (state_of L (before ++ rest)) p

  -- the bound on the number of events
  abbrev pub HasRoom : List Event → Type 0
  HasRoom events = length events ≤ L.processes * (L.capacity * (5 * L.processes - 3))

module _ {R : Type 0} (L : Setting R) (Good : R → Type 0) (agrees : RoundsAgree L Good) (a : ℕ) where
  abbrev cost : ℕ
  cost = slot_cost L.processes

  -- a process keeps its progress if it stays unchanged, and so do its steps in the round of its slot
  stays_put : (w w' : World R) (p : ℕ) → w'.caller p ≡ w.caller p → ((k : ℕ) → L.consensus.taken (w'.round k) p ≡ L.consensus.taken (w.round k) p) → distance_of L a w' p ≡ distance_of L a w p
  stays_put w w' p same taken =
      ap (λ (c : Caller). length c.seen * (cost + a) + steps_into L a w' p (length c.seen) c.phase) same ∙ ap (λ z. length (w.caller p).seen * (cost + a) + z) (go (w.caller p).phase)
    where
      go : (ph : Phase) → steps_into L a w' p (length (w.caller p).seen) ph ≡ steps_into L a w p (length (w.caller p).seen) ph
      go Idle = refl
      go (Looks mine q batch) = refl
      go (Runs mine) = ap (λ z. a + (L.processes + z)) (taken (length (w.caller p).seen))

  taken_put : (w : World R) (k : ℕ) (r : R) (p : ℕ) → L.consensus.taken r p ≡ L.consensus.taken (w.round k) p → (j : ℕ) → L.consensus.taken (put w.round k r j) p ≡ L.consensus.taken (w.round j) p
  taken_put w k r p same j = elim (cases_eq j k) [
    | inl e ↦ rw (e, put_same w.round k r) same
    | inr ne ↦ ap (λ z. L.consensus.taken z p) (put_other w.round k r j ne)
  ]

  -- a step of another process
  other_gathering : (w : World R) (q p : ℕ) → q ≢ p → (mine : Entry) (i : ℕ) (batch : Batch) (b : Bool) → distance_of L a (after_gathering L w q (w.caller q) mine i batch b) p ≡ distance_of L a w p
  other_gathering w q p ne mine i batch false = stays_put w (after_gathering L w q (w.caller q) mine i batch false) p (put_other w.caller q _ p (λ e. ne (sym e))) (λ k. refl)
  other_gathering w q p ne mine i batch true = stays_put w (after_gathering L w q (w.caller q) mine i batch true) p (put_other w.caller q _ p (λ e. ne (sym e)))
      (taken_put w (length (w.caller q).seen) (L.consensus.begin q batch (w.round (length (w.caller q).seen))) p
      (agrees.taken_begin_other (w.round (length (w.caller q).seen)) q p batch (λ e. ne (sym e))))

  other_run : (w : World R) (q p : ℕ) → q ≢ p → (mine : Entry) → distance_of L a (after_run L w q (w.caller q) mine) p ≡ distance_of L a w p
  other_run w q p ne mine = go (L.consensus.decided r q)
    where
      k : ℕ
      k = length (w.caller q).seen

      r : R
      r = L.consensus.step q (w.round (length (w.caller q).seen))

      away : p ≢ q
      away e = ne (sym e)

      w1 : World R
      w1 = record w { round = put w.round (length (w.caller q).seen) (L.consensus.step q (w.round (length (w.caller q).seen))) }

      rounds : (j : ℕ) → L.consensus.taken (w1.round j) p ≡ L.consensus.taken (w.round j) p
      rounds = taken_put w (length (w.caller q).seen) (L.consensus.step q (w.round (length (w.caller q).seen))) p (agrees.taken_step_other (w.round (length (w.caller q).seen)) q p away)

      go : (o : Option Batch) → distance_of L a (after_decision L w1 q (w.caller q) mine o) p ≡ distance_of L a w p
      go None = stays_put w w1 p refl rounds
      go (Some x) = stays_put w (after_decision L w1 q (w.caller q) mine (Some x)) p (put_other w.caller q _ p away) rounds

  other_step : (w : World R) (q p : ℕ) → q ≢ p → (ph : Phase) → distance_of L a (after_step L w q (w.caller q) ph) p ≡ distance_of L a w p
  other_step w q p ne Idle = refl
  other_step w q p ne (Looks mine i batch) = other_gathering w q p ne mine i (batch_with (w.announced i) (entries_in L.processes (w.caller q).seen) i batch) (i + 1 == L.processes)
  other_step w q p ne (Runs mine) = other_run w q p ne mine

  -- a step of the process
  module _ (w : World R) (holds : Holds L Good w) (p : ℕ) (lt : p < L.processes) where
    abbrev here : Caller
    here = w.caller p

    abbrev k0 : ℕ
    k0 = length here.seen

    distance_then : (w' : World R) (c : Caller) → w'.caller p ≡ c → distance_of L a w' p ≡ length c.seen * (cost + a) + steps_into L a w' p (length c.seen) c.phase
    distance_then w' c e = ap (λ (z : Caller). length z.seen * (cost + a) + steps_into L a w' p (length z.seen) z.phase) e

    distance_in : (ph : Phase) → here.phase ≡ ph → distance_of L a w p ≡ k0 * (cost + a) + steps_into L a w p k0 ph
    distance_in ph e = ap (λ z. k0 * (cost + a) + steps_into L a w p k0 z) e

    own_gathering : (mine : Entry) (i : ℕ) (batch v : Batch) (b : Bool) → (i + 1 == L.processes) ≡ b → here.phase ≡ Looks mine i batch
        → distance_of L a w p + 1 ≤ distance_of L a (after_gathering L w p here mine i v b) p
    own_gathering mine i batch v false last is =
        let c : Caller = record here { phase = Looks mine (i + 1) v } in
        let x = distance_in (Looks mine i batch) is in
        let y = distance_then (after_gathering L w p here mine i v false) c (put_same w.caller p c) in
        omega (arith, x, y)
    own_gathering mine i batch v true last is =
        let c : Caller = record here { phase = Runs mine } in
        let w' : World R = after_gathering L w p here mine i v true in
        let x = distance_in (Looks mine i batch) is in
        let y = distance_then w' c (put_same w.caller p c) in
        let t : L.consensus.taken (w'.round k0) p ≡ 0 = ap (λ z. L.consensus.taken z p) (put_same w.round k0 (L.consensus.begin p v (w.round k0)))
        ∙ agrees.taken_begin (w.round k0) p v lt (holds.good k0) in
        let l : i + 1 ≡ L.processes = grind (arith, nat_tests) in
        omega (arith, x, y, t, l)

    own_run : (mine : Entry) → here.phase ≡ Runs mine → distance_of L a w p + 1 ≤ distance_of L a (after_run L w p here mine) p
    own_run mine is = go (L.consensus.decided r p)
      where
        r : R
        r = L.consensus.step p (w.round k0)

        w1 : World R
        w1 = record w { round = put w.round k0 (L.consensus.step p (w.round k0)) }

        begun : (u : Batch) × (L.consensus.input (w.round k0) p ≡ Some u) × (L.consensus.decided (w.round k0) p ≡ None)
        begun = holds.running p (subst IsRuns (sym is) tt)

        more : L.consensus.taken (L.consensus.step p (w.round k0)) p ≡ L.consensus.taken (w.round k0) p + 1
        more = agrees.taken_step (w.round k0) p begun.0 lt (holds.good k0) begun.1 begun.2

        few : L.consensus.taken (w.round k0) p < 4 * (L.processes - 1)
        few = agrees.taken_low (w.round k0) p begun.0 lt (holds.good k0) begun.1 begun.2

        before : distance_of L a w p ≡ k0 * (cost + a) + (a + (L.processes + L.consensus.taken (w.round k0) p))
        before = distance_in (Runs mine) is

        go : (o : Option Batch) → distance_of L a w p + 1 ≤ distance_of L a (after_decision L w1 p here mine o) p
        go None =
            let x = before in
            let y : distance_of L a w1 p ≡ k0 * (cost + a) + (a + (L.processes + L.consensus.taken (w1.round k0) p)) = ap (λ z. k0 * (cost + a) + steps_into L a w1 p k0 z) is in
            let t : L.consensus.taken (w1.round k0) p ≡ L.consensus.taken (w.round k0) p + 1 = ap (λ z. L.consensus.taken z p) (put_same w.round k0 (L.consensus.step p (w.round k0))) ∙ more in
            omega (arith, x, y, t)
        go (Some d) =
            let c : Caller = record { seen = here.seen ++ d ∷ []; calls = here.calls; phase = phase_after L k0 mine d } in
            let w' : World R = after_decision L w1 p here mine (Some d) in
            let x = before in
            let y = distance_then w' c (put_same w.caller p c) in
            let n : length (here.seen ++ d ∷ []) ≡ k0 + 1 = length-append here.seen (d ∷ []) in
            let m : length (here.seen ++ d ∷ []) * (cost + a) ≡ k0 * (cost + a) + 1 * (cost + a) = ap (λ z. z * (cost + a)) n ∙ add-mul k0 1 (cost + a) in
            let f = few in
            omega (arith, x, y, m, f)

    own_step : (ph : Phase) → here.phase ≡ ph → ph ≢ Idle → distance_of L a w p + 1 ≤ distance_of L a (after_step L w p here ph) p
    own_step Idle is in_call = absurd (in_call refl)
    own_step (Looks mine i batch) is in_call = own_gathering mine i batch (batch_with (w.announced i) (entries_in L.processes here.seen) i batch) (i + 1 == L.processes) refl is
    own_step (Runs mine) is in_call = own_run mine is

    own_invoke : (operation : ℕ) → here.phase ≡ Idle → distance_of L a w p + a ≤ distance_of L a (after_event L w (Invoke p operation)) p
    own_invoke operation is =
        let e : Entry = record { process = p; operation = record { 0 = operation }; call = here.calls } in
        let c : Caller = record { seen = here.seen; calls = here.calls + 1; phase = first_look e } in
        let x = distance_in Idle is in
        let y = distance_then (after_event L w (Invoke p operation)) c (put_same w.caller p c) in
        omega (arith, x, y)

  paced_event : (w : World R) → Holds L Good w → (e : Event) → MayCome L w e → (p : ℕ) → distance_of L a w p + weight a p e ≤ distance_of L a (after_event L w e) p
  paced_event w holds (Invoke q operation) may p = go (q == p) refl
    where
      go : (b : Bool) → (q == p) ≡ b → distance_of L a w p + (if b then a else 0) ≤ distance_of L a (after_event L w (Invoke q operation)) p
      go true e = let same : q ≡ p = grind (arith, nat_tests) in subst (λ z. distance_of L a w z + a ≤ distance_of L a (after_event L w (Invoke q operation)) z) same
          (own_invoke w holds q may.process operation may.idle)
      go false e = let ne : p ≢ q = grind (arith, nat_tests) in let s = stays_put w (after_event L w (Invoke q operation)) p (put_other w.caller q _ p ne) (λ k. refl) in omega (arith, s)
  paced_event w holds (Step q) may p = go (q == p) refl
    where
      go : (b : Bool) → (q == p) ≡ b → distance_of L a w p + (if b then 1 else 0) ≤ distance_of L a (after_event L w (Step q)) p
      go true e = let same : q ≡ p = grind (arith, nat_tests) in subst (λ z. distance_of L a w z + 1 ≤ distance_of L a (after_event L w (Step q)) z) same
          (own_step w holds q may.process (w.caller q).phase refl may.in_call)
      go false e = let ne : q ≢ p = grind (arith, nat_tests) in let s = other_step w q p ne (w.caller q).phase in omega (arith, s)

  paced_from : (events : List Event) (w : World R) → Holds L Good w → MayAllCome L events w → (p : ℕ) → distance_of L a w p + spent a p events ≤ distance_of L a (after_events L events w) p
  paced_from [] w holds may p = omega arith
  paced_from (e ∷ events) w holds may p =
      let x = paced_event w holds e may.0 p in
      let y = paced_from events (after_event L w e) (keeps_event L Good agrees w holds e may.0) may.1 p in
      omega (arith, x, y)

  -- the weight of its events is at most the progress of a process
  pub paced : (before rest : List Event) → IsEventList L (before ++ rest) → (p : ℕ) → IsPaced L a before rest p
  paced before rest may p =
      let r = run_append L before rest (first_world L) in
      let x = paced_from rest (state_of L before) (holds_after L Good agrees before (prefix_may L Good agrees before rest may)) (may_right L before rest (first_world L) may) p in
      subst (λ (z : World R). distance_of L a (state_of L before) p + spent a p rest ≤ distance_of L a z p) (sym r) x

-- if calls weigh nothing, the weight of events is the number of steps
spent_steps : (p : ℕ) (events : List Event) → spent 0 p events ≡ steps_of p events
spent_steps p [] = refl
spent_steps p (Invoke q operation ∷ events) = let c : steps_of p (Invoke q operation ∷ events) ≡ 0 + steps_of p events = sum_by-cons (λ x. cond (is_step_of p x) 1 0) (Invoke q operation) events in
    let r = spent_steps p events in go (q == p) c r
  where
    go : (b : Bool) → steps_of p (Invoke q operation ∷ events) ≡ 0 + steps_of p events → spent 0 p events ≡ steps_of p events
        → (if b then 0 else 0) + spent 0 p events ≡ steps_of p (Invoke q operation ∷ events)
    go true c r = omega (arith, c, r)
    go false c r = omega (arith, c, r)
spent_steps p (Step q ∷ events) = let c : steps_of p (Step q ∷ events) ≡ cond (q == p) 1 0 + steps_of p events = sum_by-cons (λ x. cond (is_step_of p x) 1 0) (Step q) events in
    let r = spent_steps p events in go (q == p) c r
  where
    go : (b : Bool) → steps_of p (Step q ∷ events) ≡ cond b 1 0 + steps_of p events → spent 0 p events ≡ steps_of p events → (if b then 1 else 0) + spent 0 p events ≡ steps_of p (Step q ∷ events)
    go true c r = omega (arith, c, r)
    go false c r = omega (arith, c, r)

-- the weight for n processes, if a call weighs one
abbrev total : ℕ → List Event → ℕ
total zero events = 0
total (suc n) events = spent 1 n events + total n events

total_none : (n : ℕ) → total n [] ≡ 0
total_none zero = refl
total_none (suc n) = let r = total_none n in omega (arith, r)

weight_one : (p : ℕ) (e : Event) → weight 1 p e ≡ (if process_of e == p then 1 else 0)
weight_one p (Invoke q operation) = refl
weight_one p (Step q) = refl

total_above : (n : ℕ) (e : Event) (events : List Event) → n ≤ process_of e → total n (e ∷ events) ≡ total n events
total_above zero e events high = refl
total_above (suc n) e events high =
    let t : (process_of e == n) ≡ false = grind (arith, nat_tests) in
    let w : weight 1 n e ≡ 0 = weight_one n e ∙ ap (λ (b : Bool). if b then 1 else 0) t in
    let r = total_above n e events (omega (arith, high)) in
    omega (arith, w, r)

total_one : (n : ℕ) (e : Event) (events : List Event) → process_of e < n → total n (e ∷ events) ≡ 1 + total n events
total_one zero e events low = absurd (omega (arith, low))
total_one (suc n) e events low = elim (cases_eq (process_of e) n) [
  | inl same ↦ (let t : (process_of e == n) ≡ true = grind (arith, nat_tests) in let w : weight 1 n e ≡ 1 = weight_one n e ∙ ap (λ (b : Bool). if b then 1 else 0) t in
      let r = total_above n e events (omega (arith, same)) in omega (arith, w, r))
  | inr ne ↦ (let t : (process_of e == n) ≡ false = grind (arith, nat_tests) in let w : weight 1 n e ≡ 0 = weight_one n e ∙ ap (λ (b : Bool). if b then 1 else 0) t in
      let r = total_one n e events (grind arith) in omega (arith, w, r))
]

total_few : (n most : ℕ) (events : List Event) → ((p : ℕ) → p < n → spent 1 p events ≤ most) → total n events ≤ n * most
total_few zero most events all = let z : 0 * most ≡ 0 = zero-mul most in omega (arith, z)
total_few (suc n) most events all =
    let r = total_few n most events (λ p less. all p (omega (arith, less))) in
    let h = all n (omega arith) in
    let m : (n + 1) * most ≡ n * most + 1 * most = add-mul n 1 most in
    let s : suc n * most ≡ (n + 1) * most = (let z : suc n ≡ n + 1 = omega arith in ap (λ i. i * most) z) in
    omega (arith, r, h, m, s)

module _ {R : Type 0} (L : Setting R) (Good : R → Type 0) (agrees : RoundsAgree L Good) where
  process_low : (w : World R) (e : Event) → MayCome L w e → process_of e < L.processes
  process_low w (Invoke p operation) may = may.process
  process_low w (Step p) may = may.process

  all_counted : (events : List Event) (w : World R) → MayAllCome L events w → length events ≡ total L.processes events
  all_counted [] w may = sym (total_none L.processes)
  all_counted (e ∷ events) w may =
      let r = all_counted events (after_event L w e) may.1 in
      let t = total_one L.processes e events (process_low w e may.0) in
      omega (arith, r, t)

  abbrev cost1 : ℕ → ℕ
  cost1 a = slot_cost L.processes + a

  -- the most progress of a process: less than a slot in which it has not decided
  distance_pending : (a : ℕ) (w : World R) → Holds L Good w → (p : ℕ) → p < L.processes → (ph : Phase) → (w.caller p).phase ≡ ph → ph ≢ Idle
      → (distance_of L a w p < (length (w.caller p).seen + 1) * cost1 a) × (length (w.caller p).seen < L.capacity)
  distance_pending a w holds p lt Idle is ne = absurd (ne refl)
  distance_pending a w holds p lt (Looks mine q batch) is ne =
      let h : IsLooking L w p mine q batch = subst (PhaseHolds L w p) is (holds.phases p) in
      let y : distance_of L a w p ≡ length (w.caller p).seen * cost1 a + (a + q) = ap (λ z. length (w.caller p).seen * cost1 a + steps_into L a w p (length (w.caller p).seen) z) is in
      let m : (length (w.caller p).seen + 1) * cost1 a ≡ length (w.caller p).seen * cost1 a + 1 * cost1 a = add-mul (length (w.caller p).seen) 1 (cost1 a) in
      let n = h.next in
      (omega (arith, y, m, n), h.pending.room)
  distance_pending a w holds p lt (Runs mine) is ne =
      let h : IsPending L w p mine = subst (PhaseHolds L w p) is (holds.phases p) in
      let b = holds.running p (subst IsRuns (sym is) tt) in
      let f = agrees.taken_low (w.round (length (w.caller p).seen)) p b.0 lt (holds.good (length (w.caller p).seen)) b.1 b.2 in
      let y : distance_of L a w p ≡ length (w.caller p).seen * cost1 a + (a + (L.processes + L.consensus.taken (w.round (length (w.caller p).seen)) p)) =
      ap (λ z. length (w.caller p).seen * cost1 a + steps_into L a w p (length (w.caller p).seen) z) is in
      let m : (length (w.caller p).seen + 1) * cost1 a ≡ length (w.caller p).seen * cost1 a + 1 * cost1 a = add-mul (length (w.caller p).seen) 1 (cost1 a) in
      (omega (arith, y, m, f), h.room)

  -- a process has replayed at most as many slots as there are: only a process with a pending call replays one, and then one was left
  seen_event : (w : World R) → Holds L Good w → ((q : ℕ) → length (w.caller q).seen ≤ L.capacity) → (e : Event) → MayCome L w e → (q : ℕ) → length ((after_event L w e).caller q).seen ≤ L.capacity
  seen_event w holds few e may q = go e may
    where
      put_few : (p : ℕ) (c : Caller) → length c.seen ≤ L.capacity → length (put w.caller p c q).seen ≤ L.capacity
      put_few p c h = elim (cases_eq q p) [
        | inl f ↦ rw (f, put_same w.caller p c) h
        | inr ne ↦ subst (λ (z : Caller). length z.seen ≤ L.capacity) (sym (put_other w.caller p c q ne)) (few q)
      ]

      gathering : (p : ℕ) (mine : Entry) (i : ℕ) (v : Batch) (b : Bool) → length ((after_gathering L w p (w.caller p) mine i v b).caller q).seen ≤ L.capacity
      gathering p mine i v false = put_few p (record (w.caller p) { phase = Looks mine (i + 1) v }) (few p)
      gathering p mine i v true = put_few p (record (w.caller p) { phase = Runs mine }) (few p)

      decision : (p : ℕ) (mine : Entry) (w1 : World R) → w1.caller ≡ w.caller → length (w.caller p).seen < L.capacity → (o : Option Batch)
          → length ((after_decision L w1 p (w.caller p) mine o).caller q).seen ≤ L.capacity
      decision p mine w1 same room None = subst (λ (z : ℕ → Caller). length (z q).seen ≤ L.capacity) (sym same) (few q)
      decision p mine w1 same room (Some x) =
          let c : Caller = record { seen = (w.caller p).seen ++ x ∷ []; calls = (w.caller p).calls; phase = phase_after L (length (w.caller p).seen) mine x } in
          let n : length ((w.caller p).seen ++ x ∷ []) ≡ length (w.caller p).seen + 1 = length-append (w.caller p).seen (x ∷ []) in
          subst (λ (z : ℕ → Caller). length (put z p c q).seen ≤ L.capacity) (sym same) (put_few p c (omega (arith, n, room)))

      stepped : (p : ℕ) (ph : Phase) → (w.caller p).phase ≡ ph → length ((after_step L w p (w.caller p) ph).caller q).seen ≤ L.capacity
      stepped p Idle is = few q
      stepped p (Looks mine i batch) is = gathering p mine i (batch_with (w.announced i) (entries_in L.processes (w.caller p).seen) i batch) (i + 1 == L.processes)
      stepped p (Runs mine) is =
          let h : IsPending L w p mine = subst (PhaseHolds L w p) is (holds.phases p) in
          let r : R = L.consensus.step p (w.round (length (w.caller p).seen)) in
          decision p mine (record w { round = put w.round (length (w.caller p).seen) r }) refl h.room (L.consensus.decided r p)

      go : (e : Event) → MayCome L w e → length ((after_event L w e).caller q).seen ≤ L.capacity
      go (Invoke p operation) may = put_few p _ (few p)
      go (Step p) may = stepped p (w.caller p).phase refl

  seen_from : (events : List Event) (w : World R) → Holds L Good w → ((q : ℕ) → length (w.caller q).seen ≤ L.capacity) → MayAllCome L events w → (q : ℕ)
      → length ((after_events L events w).caller q).seen ≤ L.capacity
  seen_from [] w holds few may q = few q
  seen_from (e ∷ events) w holds few may q = seen_from events (after_event L w e) (keeps_event L Good agrees w holds e may.0) (seen_event w holds few e may.0) may.1 q

  pub seen_few : (events : List Event) → IsEventList L events → (q : ℕ) → length ((state_of L events).caller q).seen ≤ L.capacity
  seen_few events may q = seen_from events (first_world L) (first_holds L Good agrees) (λ q. omega arith) may q

  distance_few : (a : ℕ) (events : List Event) → IsEventList L events → (p : ℕ) → p < L.processes → distance_of L a (state_of L events) p ≤ L.capacity * cost1 a
  distance_few a events may p lt = go ((state_of L events).caller p).phase refl
    where
      idle_or : (ph : Phase) → (ph ≡ Idle) ⊎ (ph ≢ Idle)
      idle_or Idle = inl refl
      idle_or (Looks mine q batch) = inr (λ e. cc e)
      idle_or (Runs mine) = inr (λ e. cc e)

      go : (ph : Phase) → ((state_of L events).caller p).phase ≡ ph → distance_of L a (state_of L events) p ≤ L.capacity * cost1 a
      go ph is = elim (idle_or ph) [
        | inl idle ↦ (let y : distance_of L a (state_of L events) p ≡ length ((state_of L events).caller p).seen * cost1 a + 0 =
            ap (λ z. length ((state_of L events).caller p).seen * cost1 a + steps_into L a (state_of L events) p (length ((state_of L events).caller p).seen) z) (is ∙ idle) in
            let m = mul-le-mul_right (cost1 a) (seen_few events may p) in omega (arith, y, m))
        | inr busy ↦ (let h = distance_pending a (state_of L events) (holds_after L Good agrees events may) p lt ph is busy in let r = h.1 in
            let m = mul-le-mul_right (cost1 a) (let l : length ((state_of L events).caller p).seen + 1 ≤ L.capacity = omega (arith, r) in l) in let l = h.0 in omega (arith, l, m))
      ]

  -- there is room for the events
  pub has_room : (events : List Event) → IsEventList L events → HasRoom L events
  has_room events may =
      let counted = all_counted events (first_world L) may in
      let few = total_few L.processes (L.capacity * cost1 1) events (λ p lt. (let x = paced L Good agrees 1 [] events may p in let y = distance_few 1 events may p lt in omega (arith, x, y))) in
      rooms (all_some L.processes few counted)
    where
      -- with a process there are 5n - 3 events for each slot, and without processes there is none
      all_some : (n : ℕ) → total L.processes events ≤ L.processes * (L.capacity * cost1 1) → length events ≡ total L.processes events → length events ≤ L.processes * (L.capacity * cost1 1)
      all_some n few counted = omega (arith, few, counted)

      rooms : length events ≤ L.processes * (L.capacity * cost1 1) → length events ≤ L.processes * (L.capacity * (5 * L.processes - 3))
      rooms h = elim (cases_eq L.processes 0) [
        | inl none ↦ (let z : L.processes * (L.capacity * cost1 1) ≡ 0 = ap (λ n. n * (L.capacity * cost1 1)) none ∙ zero-mul (L.capacity * cost1 1) in omega (arith, h, z))
        | inr some ↦ (let c : cost1 1 ≡ 5 * L.processes - 3 = grind arith in subst (λ z. length events ≤ L.processes * (L.capacity * z)) c h)
      ]

  -- a pending call ends in time
  module _ (events : List Event) (may : IsEventList L events) (i : ℕ) (e : Entry) (c : IsCall events i e) (pending : pending_in (caller_of L events e.process).phase ≡ Some e) where
    abbrev p : ℕ
    p = e.process

    abbrev made : Event
    made = Invoke e.process e.operation.0

    abbrev k : ℕ
    k = length (caller_of L (take i events) e.process).seen

    abbrev since : ℕ
    since = fixed_before L events i

    lt : p < L.processes
    lt = call_may L Good agrees events may i e c

    whole : events ≡ take i events ++ made ∷ drop (suc i) events
    whole = split_at events i made c.invoke

    may_before : IsEventList L (take i events)
    may_before = prefix_may L Good agrees (take i events) (made ∷ drop (suc i) events) (subst (IsEventList L) whole may)

    is_pending : (ph : Phase) → (caller_of L events p).phase ≡ ph → pending_in ph ≡ Some e → PhaseHolds L (state_of L events) p ph → IsPending L (state_of L events) p e
    is_pending Idle is h holds = absurd (cc h)
    is_pending (Looks mine q batch) is h holds = let same : mine ≡ e = cc in subst (λ (z : Entry). IsPending L (state_of L events) p z) same holds.pending
    is_pending (Runs mine) is h holds = let same : mine ≡ e = cc in subst (λ (z : Entry). IsPending L (state_of L events) p z) same holds

    low : length (caller_of L events p).seen ≤ since + 1
    low = pending_low L Good agrees (state_of L events) (holds_after L Good agrees events may) (facts_after L Good agrees events may) p e lt
        (is_pending (caller_of L events p).phase refl pending ((holds_after L Good agrees events may).phases p)) since (call_noted L Good agrees events may i e c)

    -- the process had replayed at most as many slots as were fixed
    pub k_low : k ≤ since
    k_low = go (cases_le since k)
      where
        cases_le : (x y : ℕ) → (x < y) ⊎ (y ≤ x)
        cases_le x y = grind arith

        go : (since < k) ⊎ (k ≤ since) → k ≤ since
        go (inl more) =
            let few = seen_few (take i events) may_before p in
            let y = there_is (caller_of L (take i events) p).seen since more in
            let f = (holds_after L Good agrees (take i events) may_before).seen p since y.0 y.1 in
            let b = batch_of L Good agrees (take i events) may_before since y.0 (omega (arith, more, few)) f in
            absurd (let l = get_low (batches L (take i events)) since y.0 b in omega (arith, l))
        go (inr le) = le

    dropped : spent 0 p (made ∷ drop (suc i) events) ≡ steps_of p (drop i events)
    dropped = spent_steps p (made ∷ drop (suc i) events) ∙ ap (steps_of p) (drops events i c.invoke)
      where
        drops : (xs : List Event) (j : ℕ) → slice_get xs j ≡ Some made → made ∷ drop (suc j) xs ≡ drop j xs
        drops [] j h = absurd (cc h)
        drops (x ∷ xs) zero h = let same : x ≡ made = cc in ap (λ z. z ∷ xs) (sym same)
        drops (x ∷ xs) (suc j) h = drops xs j h

    pub ends_in_time : steps_of p (drop i events) < (since - k + 2) * (5 * L.processes - 4)
    ends_in_time =
        let x : distance_of L 0 (state_of L (take i events)) p + spent 0 p (made ∷ drop (suc i) events) ≤ distance_of L 0 (state_of L (take i events ++ made ∷ drop (suc i) events)) p =
        paced L Good agrees 0 (take i events) (made ∷ drop (suc i) events) (subst (IsEventList L) whole may) p in
        let y : distance_of L 0 (state_of L (take i events ++ made ∷ drop (suc i) events)) p ≡ distance_of L 0 (state_of L events) p = ap (λ z. distance_of L 0 (state_of L z) p) (sym whole) in
        let h = (distance_pending 0 (state_of L events) (holds_after L Good agrees events may) p lt (caller_of L events p).phase refl (not_idle (caller_of L events p).phase pending)).0 in
        let d = dropped in
        let n : length (caller_of L events p).seen + 1 ≤ since + 2 = (let l = low in omega (arith, l)) in
        let m = mul-le-mul_right (cost1 0) n in
        let g = k_low in
        let t : since + 2 ≡ k + (since - k + 2) = omega (arith, g) in
        let u : (since + 2) * cost1 0 ≡ k * cost1 0 + (since - k + 2) * cost1 0 = ap (λ z. z * cost1 0) t ∙ add-mul k (since - k + 2) (cost1 0) in
        let o = lt in
        let c0 : cost1 0 ≡ 5 * L.processes - 4 = omega (arith, o) in
        let v : (since - k + 2) * cost1 0 ≡ (since - k + 2) * (5 * L.processes - 4) = ap (λ z. (since - k + 2) * z) c0 in
        omega (arith, x, y, h, d, m, u, v)

-- a number within the bound is below the bound with one more event for each process
pub room_left : (n slots many : ℕ) → 2 ≤ n → many ≤ n * (slots * (5 * n - 3)) → many < event_room n slots
room_left n slots many two few =
    let b : event_room n slots ≡ n * (slots * (5 * n - 3)) + n * 1 = mul-add n (slots * (5 * n - 3)) 1 in
    let c = mul-one n in
    omega (arith, two, few, b, c)
