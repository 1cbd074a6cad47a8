-- The fields of a core: at its opening, and after a call.
use Rattle.std.proofs.Common.{ℕ, zero, suc, ◌≡◌, inl, inr, Bool, true, false, ◌==◌, ◌+◌, ◌<◌, ◌≤◌, List, [], ◌∷◌, ◌++◌, length, replicate, Option, Some, None, refl, sym, ap, ◌∙◌, arith, subst, slice_index_or, slice_set, get_or, length-set, get_or-set_same, get_or-set_other, length-append}
use Rattle.std.proofs.lemmas.Bool.{cases_eq}
use Rattle.std.proofs.lemmas.List.{get_or_default, length-replicate, set-get_or}
use Rattle.cn_table.specs.declared.elements.State.{State}
use Rattle.cn_log.specs.declared.batch.Batch.{Batch}
use Rattle.cn_log.specs.declared.entry.Entry.{Entry}
use Rattle.cn_log.specs.Batches.{entries_in, slots_from}
use Rattle.cn_log.specs.declared.event.Event.{Event}
use Rattle.cn_log.specs.declared.event.Event.TheVariants.{Invoke, Step}
use Rattle.cn_log.specs.declared.caller_state.Phase.{Phase}
use Rattle.cn_log.specs.declared.caller_state.Phase.TheVariants.{Idle, Looks, Runs}
use Rattle.cn_log.specs.declared.caller_state.CallerState.{CallerState}
use Rattle.cn_log.specs.Agreement.{RoundsAgree}
use Rattle.cn_log.specs.Fields.{no_calls, no_caller_state, IsCallerState, Fields, AreFieldsOf, Keeps, IsAt}
use Rattle.cn_log.specs.Log.{Setting, World, Caller, put, batch_with, first_look, batches_of, after_events, after_event, after_gathering, after_step, after_decision, phase_after, first_world, state_of, MayCome, MayAllCome, IsEventList, MayInvoke}
use Rattle.cn_log.proofs.ListLemmas.Places.{put_same, put_other}
use Rattle.cn_log.proofs.InvariantLemmas.Invariant.{PhaseHolds, Holds}
use Rattle.cn_log.proofs.InvariantLemmas.Invocations.{keeps_event}
use Rattle.cn_log.proofs.InvariantLemmas.Bypasses.{first_holds}
use Rattle.cn_log.proofs.ListLemmas.EventLists.{run_append}
use Rattle.cn_log.proofs.ListLemmas.EntryLists.{fixed_from_is}

-- the value read at a place, if the place has another name
pub read_at : {A : Type 0} (xs : List A) {x : A} {k p : ℕ} → x ≡ get_or xs k x → k ≡ p → x ≡ get_or xs p x
read_at xs {x = x} there same = there ∙ ap (λ k. get_or xs k x) same

-- the same value put back
pub put_back : {A : Type 0} (xs : List A) {x : A} (k : ℕ) → x ≡ get_or xs k x → slice_set xs k x ≡ xs
put_back xs {x = x} k there = ap (λ y. slice_set xs k y) there ∙ set-get_or xs k x

-- the fields keep what they show
pub keeps_shown : {R : Type 0} {L : Setting R} {s : List Event} {shown kept : Fields R} → Keeps L s kept → shown ≡ kept → Keeps L s shown
keeps_shown {L = L} {s = s} keeps shows = subst (Keeps L s) (sym shows) keeps

-- a process in this phase, and its progress, as read from the fields
pub record IsReadCaller {R : Type 0} (L : Setting R) (Good : R → Type 0) (s : List Event) (kept : Fields R) (p : ℕ) (phase : Phase) (here : CallerState) : Type 0 where
  pub agrees : RoundsAgree L Good
  pub at : IsAt L s kept p phase
  pub read : here ≡ get_or kept.callers p here

-- so a method finds it in the fields
pub read_caller : {R : Type 0} {L : Setting R} {Good : R → Type 0} {s : List Event} {shown kept : Fields R} {p k : ℕ} {phase : Phase} {here : CallerState}
    → RoundsAgree L Good → IsAt L s kept p phase → shown ≡ kept → here ≡ get_or shown.callers k here → k ≡ p → IsReadCaller L Good s shown p phase here
read_caller {L = L} {s = s} {shown = shown} {p = p} {phase = phase} agrees at shows read same = record {
  agrees = agrees;
  at = subst (λ k. IsAt L s k p phase) (sym shows) at;
  read = read_at shown.callers read same;
}

abbrev busy : Phase → ℕ
busy Idle = 0
busy (Looks e q batch) = 1
busy (Runs e) = 1

-- a process has replayed a slot for each of its calls except the pending one
abbrev IsLow : ℕ → Caller → Type 0
IsLow capacity here = (here.calls ≤ length here.seen + busy here.phase) × (length here.seen ≤ capacity)

module _ {R : Type 0} (L : Setting R) where
  pub state_push : (s : List Event) (e : Event) → state_of L (s ++ e ∷ []) ≡ after_event L (state_of L s) e
  state_push s e = run_append L s (e ∷ []) (first_world L)

  pub may_push : (s : List Event) (e : Event) → IsEventList L s → MayCome L (state_of L s) e → IsEventList L (s ++ e ∷ [])
  may_push s e may come = go s (first_world L) may come
    where
      go : (s : List Event) (w : World R) → MayAllCome L s w → MayCome L (after_events L s w) e → MayAllCome L (s ++ e ∷ []) w
      go [] w may come = (come, tt)
      go (x ∷ s) w may come = (may.0, go s (after_event L w x) may.1 come)

  put_low : (w : World R) → ((q : ℕ) → IsLow L.capacity (w.caller q)) → (p : ℕ) (s : Caller) → IsLow L.capacity s → (q : ℕ) → IsLow L.capacity (put w.caller p s q)
  put_low w low p s now q = elim (cases_eq q p) [
    | inl f ↦ rw (f, put_same w.caller p s) now
    | inr ne ↦ rw (put_other w.caller p s q ne) (low q)
  ]

  low_gathering : (w : World R) → ((q : ℕ) → IsLow L.capacity (w.caller q)) → (p : ℕ) (here : Caller) → w.caller p ≡ here → (mine : Entry) (i : ℕ) (batch v : Batch) (b : Bool)
      → here.phase ≡ Looks mine i batch
      → (q : ℕ) → IsLow L.capacity ((after_gathering L w p here mine i v b).caller q)
  low_gathering w low p here is mine i batch v false ph q =
      let was : IsLow L.capacity here = rw is at (low p) in
      let b : busy here.phase ≡ 1 = ap busy ph in
      let a = was.0 in
      put_low w low p (record here { phase = Looks mine (i + 1) v }) (omega arith, was.1) q
  low_gathering w low p here is mine i batch v true ph q =
      let was : IsLow L.capacity here = rw is at (low p) in
      let b : busy here.phase ≡ 1 = ap busy ph in
      let a = was.0 in
      put_low w low p (record here { phase = Runs mine }) (omega arith, was.1) q

  low_step : (w : World R) → ((q : ℕ) → IsLow L.capacity (w.caller q)) → (p : ℕ) (here : Caller) → w.caller p ≡ here → (ph : Phase) → here.phase ≡ ph → PhaseHolds L w p ph
      → (q : ℕ) → IsLow L.capacity ((after_step L w p here ph).caller q)
  low_step w low p here is Idle ph holds q = low q
  low_step w low p here is (Looks mine i batch) ph holds q = low_gathering w low p here is mine i batch (batch_with (w.announced i) (entries_in L.processes here.seen) i batch)
      (i + 1 == L.processes) ph q
  low_step w low p here is (Runs mine) ph holds q = go (L.consensus.decided (L.consensus.step p (w.round (length here.seen))) p)
    where
      w1 : World R
      w1 = record w { round = put w.round (length here.seen) (L.consensus.step p (w.round (length here.seen))) }

      go : (o : Option Batch) → IsLow L.capacity ((after_decision L w1 p here mine o).caller q)
      go None = low q
      go (Some x) =
          let was : IsLow L.capacity here = rw is at (low p) in
          let b : busy here.phase ≡ 1 = ap busy ph in
          let a = was.0 in
          let n : length (here.seen ++ x ∷ []) ≡ length here.seen + 1 = length-append here.seen (x ∷ []) in
          let room : length here.seen < L.capacity = rw is at holds.room in
          put_low w low p (record { seen = here.seen ++ x ∷ []; calls = here.calls; phase = phase_after L (length here.seen) mine x }) (omega arith, omega arith) q

  low_invoke : (w : World R) → ((q : ℕ) → IsLow L.capacity (w.caller q)) → (p operation : ℕ) → MayInvoke L w p operation
      → ((w.caller p).calls < L.capacity)
      × IsLow L.capacity (record {
        seen = (w.caller p).seen;
        calls = (w.caller p).calls + 1;
        phase = first_look (record { process = p; operation = record { 0 = operation }; call = (w.caller p).calls });
      })
  low_invoke w low p operation may =
      let was = low p in
      let b : busy (w.caller p).phase ≡ 0 = ap busy may.idle in
      let a = was.0 in
      let m = may.not_at_end in
      (omega arith, (omega arith, was.1))

  pub caller_put : {w : World R} {kept : Fields R} → AreFieldsOf L w kept → {p : ℕ} → p < L.processes → (x : CallerState) (s : Caller) → IsCallerState L x s
      → (q : ℕ) → q < L.processes → IsCallerState L (slice_index_or (slice_set kept.callers p x) q no_caller_state) (put w.caller p s q)
  caller_put {w = w} {kept = kept} fits {p = p} lt x s is q less = elim (cases_eq q p) [
    | inl f ↦ (let many = fits.callers_many in rw (f, put_same w.caller p s, get_or-set_same kept.callers p x no_caller_state (omega arith)) is)
    | inr ne ↦ rw (put_other w.caller p s q ne, get_or-set_other kept.callers p q x no_caller_state ne) (fits.caller q less)
  ]

  pub caller_here : {s : List Event} {kept : Fields R} → Keeps L s kept → {p : ℕ} → p < L.processes → {here : CallerState} → here ≡ get_or kept.callers p here
      → IsCallerState L here ((state_of L s).caller p)
  caller_here {s = s} {kept = kept} keeps {p = p} lt {here = here} read =
      let many = keeps.fits.callers_many in
      let is : here ≡ get_or kept.callers p no_caller_state = read ∙ get_or_default kept.callers p here no_caller_state (omega arith) in
      rw is (keeps.fits.caller p lt)

module _ {R : Type 0} (L : Setting R) (Good : R → Type 0) (agrees : RoundsAgree L Good) where
  low_event : (w : World R) → Holds L Good w → ((q : ℕ) → IsLow L.capacity (w.caller q)) → (e : Event) → MayCome L w e → (q : ℕ) → IsLow L.capacity ((after_event L w e).caller q)
  low_event w holds low (Invoke p operation) may q = put_low L w low p _ (low_invoke L w low p operation may).1 q
  low_event w holds low (Step p) may q = low_step L w low p (w.caller p) refl (w.caller p).phase refl (holds.phases p) q

  low_run : (s : List Event) (w : World R) → Holds L Good w → ((q : ℕ) → IsLow L.capacity (w.caller q)) → MayAllCome L s w → (q : ℕ) → IsLow L.capacity ((after_events L s w).caller q)
  low_run [] w holds low may q = low q
  low_run (e ∷ s) w holds low may q = low_run s (after_event L w e) (keeps_event L Good agrees w holds e may.0) (low_event w holds low e may.0) may.1 q

  low_after : (s : List Event) → IsEventList L s → (q : ℕ) → IsLow L.capacity ((state_of L s).caller q)
  low_after s may q = low_run s (first_world L) (first_holds L Good agrees) (λ q. (omega arith, omega arith)) may q

  -- a process makes at most as many calls as there are slots
  pub calls_few : {s : List Event} {kept : Fields R} → Keeps L s kept → {p operation : ℕ} → MayInvoke L (state_of L s) p operation → {here : CallerState}
      → here ≡ get_or kept.callers p here → here.calls < L.capacity
  calls_few {s = s} {kept = kept} keeps {p = p} {operation = operation} may {here = here} read =
      let low = (low_invoke L (state_of L s) (low_after s keeps.events) p operation may).0 in
      let d = (caller_here L keeps may.process read).calls in
      omega arith

  pub invoke_keeps : {s : List Event} {kept : Fields R} → Keeps L s kept → {p operation : ℕ} → MayInvoke L (state_of L s) p operation → {here : CallerState} → here ≡ get_or kept.callers p here
      → let entry : Entry = record { process = p; operation = record { 0 = operation }; call = here.calls } in
      Keeps L (s ++ Invoke p operation ∷ []) (record kept {
        announced = slice_set kept.announced p (Some entry);
        callers = slice_set kept.callers p (record here { calls = here.calls + 1; phase = first_look entry });
      })
  invoke_keeps {s = s} {kept = kept} keeps {p = p} {operation = operation} may {here = here} read =
      let w = state_of L s in
      let d = caller_here L keeps may.process read in
      let fits = keeps.fits in
      let many = fits.announced_many in
      let lt = may.process in
      let entry : ℕ → Entry = λ c. record { process = p; operation = record { 0 = operation }; call = c } in
      rw d.calls (record {
        events = may_push L s (Invoke p operation) keeps.events may;
        fits = rw (state_push L s (Invoke p operation)) (record {
          rounds_many = fits.rounds_many;
          round = fits.round;
          announced_many = length-set kept.announced p _ ∙ fits.announced_many;
          announcement = λ q less. elim (cases_eq q p) [
            | inl f ↦ rw (f, put_same w.announced p (Some (entry (w.caller p).calls)), get_or-set_same kept.announced p (Some (entry (w.caller p).calls)) None (omega arith)) refl
            | inr ne ↦ rw (put_other w.announced p (Some (entry (w.caller p).calls)) q ne, get_or-set_other kept.announced p q (Some (entry (w.caller p).calls)) None ne) (fits.announcement q less)
          ];
          callers_many = length-set kept.callers p _ ∙ fits.callers_many;
          caller = caller_put L fits may.process _ _
              (record {
                replayed_slots = d.replayed_slots;
                replayed_entries = d.replayed_entries;
                calls_places = d.calls_places;
                calls_seen = d.calls_seen;
                calls = refl;
                phase = refl;
                state = d.state;
                known = d.known;
              });
          entries_are = fits.entries_are;
          slots_are = fits.slots_are;
          fixed_is = fits.fixed_is;
        });
      })

  get_replicate : {A : Type 0} (n k : ℕ) (x d : A) → k < n → slice_index_or (replicate n x) k d ≡ x
  get_replicate zero k x d less = absurd (omega arith)
  get_replicate (suc n) zero x d less = refl
  get_replicate (suc n) (suc k) x d less = get_replicate n k x d (omega arith)

  pub new_keeps : (start : State) → start.0 ≡ L.start → start.0 < length L.object.states → (entries_room slots_room : ℕ)
      → Keeps L [] (record {
        rounds = replicate L.capacity L.untouched;
        announced = replicate L.processes None;
        callers = replicate L.processes (record { replayed_slots = 0; replayed_entries = 0; calls_seen = no_calls; calls = 0; phase = Idle; state = start });
        entries = [];
        slots = [];
        fixed = 0;
        entries_room = entries_room;
        slots_room = slots_room;
      })
  new_keeps start is known entries_room slots_room = record {
    events = tt;
    fits = record {
      rounds_many = length-replicate L.capacity _;
      round = λ k less. get_replicate L.capacity k _ _ less;
      announced_many = length-replicate L.processes _;
      announcement = λ p less. get_replicate L.processes p _ _ less;
      callers_many = length-replicate L.processes _;
      caller = λ p less. rw (get_replicate L.processes p none no_caller_state less) (record {
        replayed_slots = refl;
        replayed_entries = refl;
        calls_places = refl;
        calls_seen = λ q low. get_replicate 8 q 0 0 (let few = agrees.few in omega (arith, low, few));
        calls = refl;
        phase = refl;
        state = is;
        known = known;
      });
      entries_are = ap (entries_in L.processes) (sym nothing);
      slots_are = ap (slots_from L.processes 0) (sym nothing);
      fixed_is = ap length (sym nothing);
    };
  }
    where
      nothing : batches_of L (first_world L) ≡ []
      nothing = fixed_from_is L (first_world L).round L.capacity 0 [] (omega arith) (λ j x h. absurd cc) (inr agrees.unfixed)

      none : CallerState
      none = record { replayed_slots = 0; replayed_entries = 0; calls_seen = no_calls; calls = 0; phase = Idle; state = start }
