-- A step keeps the fields equal to the state after the schedule.
use Rattle.std.proofs.Common.{ℕ, ◌≡◌, ◌≢◌, inl, inr, Bool, true, false, ◌+◌, ◌*◌, ◌<◌, ◌≤◌, ◌==◌, List, [], ◌∷◌, ◌++◌, length, Option, Some, None, refl, sym, ap, ◌∙◌, arith, if◌then◌else◌, slice_index_or, slice_set, get_or, subst, length-set, get_or-set_same, get_or-set_other, length-append, append-nil}
use Rattle.std.proofs.lemmas.Bool.{cases_eq}
use Rattle.std.proofs.lemmas.List.{get_or_default}
use Rattle.std.proofs.Math.Nat.{add-mul, mul-le-mul_right, mul_comm}
use Rattle.cn_table.specs.TypeTable.{TypeTable, transition}
use Rattle.cn_table.specs.Run.{state_after}
use Rattle.cn_log.specs.declared.batch.Batch.{Batch}
use Rattle.cn_log.specs.declared.entry.Entry.{Entry}
use Rattle.cn_log.specs.Batches.{has, and_entry, entry_at, members, entries_in, slots_from}
use Rattle.cn_log.proofs.ListLemmas.NextMembers.{not_next}
use Rattle.cn_log.proofs.ListLemmas.EntryPositions.{entries_few_in, entries_put, slots_as_many, slots_put}
use Rattle.cn_log.specs.declared.event.Event.{Event}
use Rattle.cn_log.specs.declared.event.Event.TheVariants.{Step}
use Rattle.cn_log.specs.declared.event.StepAnswer.{StepAnswer}
use Rattle.cn_log.specs.declared.event.StepAnswer.TheVariants.{Working, Answered, Full}
use Rattle.cn_log.specs.declared.caller_state.Phase.{Phase}
use Rattle.cn_log.specs.declared.caller_state.Phase.TheVariants.{Idle, Looks, Runs}
use Rattle.cn_log.specs.declared.caller_state.CallerState.{CallerState}
use Rattle.cn_log.specs.Fields.{count_at, batch_with_calls, next_batch, step_answer, IsCallerState, Fields, AreFieldsOf, Keeps}
use Rattle.cn_log.specs.Log.{Setting, World, Caller, put, batch_with, operations_of, object_after, after_step, after_gathering, after_decision, phase_after, state_of, fixed_from, batches_of, entries_of, MayStep, IsEventList, answer, answer_from, answer_with}
use Rattle.cn_log.proofs.ListLemmas.Places.{put_same, put_other}
use Rattle.cn_log.proofs.InvariantLemmas.Invariant.{IsRuns, IsPending, IsLooking, IsBegun, PhaseHolds, Holds, in_order, fixed_begun}
use Rattle.cn_log.proofs.InvariantLemmas.Looks.{not_begun}
use Rattle.cn_log.proofs.InvariantLemmas.Invocations.{open_at}
use Rattle.cn_log.proofs.ListLemmas.EntryLists.{entered, entries_few, entered_is, fixed_from_same}
use Rattle.cn_log.proofs.InvariantLemmas.Linearization.{holds_after, fixed_of, known_operation}
use Rattle.cn_log.proofs.CallerLemmas.Knowledge.{replayed_batches}
use Rattle.cn_log.specs.Callers.{BeginsWith, entries_by}
use Rattle.cn_log.proofs.CallerLemmas.CallCounts.{gathered_by_number, own_at, own_few}
use Rattle.cn_log.proofs.CallerLemmas.OwnCalls.{push_batch}
use Rattle.cn_log.proofs.StateLemmas.Fields.{IsReadCaller, state_push, may_push, caller_put, caller_here}
use Rattle.cn_log.specs.declared.limits.TheConstants.{MOST_ENTRIES, MOST_SLOTS}

-- a run over more entries goes on from the state before them
run_join : (t : TypeTable) (state : ℕ) (xs ys : List Entry) → state_after t state (operations_of (xs ++ ys)) ≡ state_after t (state_after t state (operations_of xs)) (operations_of ys)
run_join t state [] ys = refl
run_join t state (x ∷ xs) ys = run_join t (transition t x.operation.0 state).1 xs ys

-- the next batch behind this many
next_is : (bs : List Batch) (k : ℕ) (o : Option Batch) → entered bs k o ≡ bs ++ next_batch (length bs) k o
next_is bs k None = sym (append-nil bs)
next_is bs k (Some b) = go (length bs == k)
  where
    go : (c : Bool) → (if c then bs ++ b ∷ [] else bs) ≡ bs ++ (if c then b ∷ [] else [])
    go true = refl
    go false = sym (append-nil bs)

-- its slot is slot k, if there is one
next_slot : (n many k : ℕ) (o : Option Batch) → slots_from n many (next_batch many k o) ≡ slots_from n k (next_batch many k o)
next_slot n many k o = elim (cases_eq many k) [
  | inl e ↦ ap (λ i. slots_from n i (next_batch many k o)) e
  | inr ne ↦ rw (not_next many k o ne) refl
]

-- the knowledge of a process in this phase
module _ {R : Type 0} {L : Setting R} {Good : R → Type 0} {s : List Event} {kept : Fields R} {p : ℕ} {phase : Phase} {here : CallerState} (now : IsReadCaller L Good s kept p phase here) where
  abbrev w : World R
  w = state_of L s

  abbrev caller : Caller
  caller = w.caller p

  abbrev k0 : ℕ
  k0 = length caller.seen

  -- properties of both phases of a call
  module _ {mine : Entry} (pending : IsPending L w p mine) where
    holds : Holds L Good w
    holds = holds_after L Good now.agrees s now.at.keeps.events

    pub caller_is : IsCallerState L here caller
    caller_is = caller_here L now.at.keeps now.at.process now.read

    pub room : here.replayed_slots < L.capacity
    room = let a = caller_is.replayed_slots in let b = pending.room in omega arith

    pub in_rounds : here.replayed_slots < length kept.rounds
    in_rounds = let a = room in let b = now.at.keeps.fits.rounds_many in omega arith

    pub round_is : (r : R) → r ≡ get_or kept.rounds here.replayed_slots r → r ≡ w.round k0
    round_is r e = e ∙ get_or_default kept.rounds here.replayed_slots r L.untouched in_rounds ∙ now.at.keeps.fits.round here.replayed_slots room ∙ ap w.round caller_is.replayed_slots

    pub round_good : (r : R) → r ≡ get_or kept.rounds here.replayed_slots r → Good r
    round_good r e = subst Good (sym (round_is r e)) (holds.good k0)

    pub fixed_front : BeginsWith (batches_of L w) caller.seen
    fixed_front = replayed_batches L Good now.agrees s p now.at.keeps.events

    pub slots_low : k0 ≤ length (batches_of L w)
    slots_low = let f = fixed_front in let e : length (batches_of L w) ≡ k0 + length f.0 = ap length f.1 ∙ length-append caller.seen f.0 in omega (arith, e)

    round_put : (r' : R) (k : ℕ) → k < L.capacity → slice_index_or (slice_set kept.rounds here.replayed_slots r') k L.untouched ≡ put w.round k0 r' k
    round_put r' k less = elim (cases_eq k k0) [
      | inl f ↦ (let g : k ≡ here.replayed_slots = f ∙ sym caller_is.replayed_slots in
          rw (g, get_or-set_same kept.rounds here.replayed_slots r' L.untouched in_rounds, caller_is.replayed_slots, put_same w.round k0 r') refl)
      | inr ne ↦ (let g : k ≢ here.replayed_slots = (λ same. ne (same ∙ caller_is.replayed_slots)) in
          rw (put_other w.round k0 r' k ne, get_or-set_other kept.rounds here.replayed_slots k r' L.untouched g) (now.at.keeps.fits.round k less))
    ]

    -- the fields after a step that changes the round of the slot and the progress of the process
    pub fits_put : (r' : R) (x : CallerState) (c : Caller) → IsCallerState L x c → (w' : World R) → w'.round ≡ put w.round k0 r' → w'.announced ≡ w.announced → w'.caller ≡ put w.caller p c
        → (more : Fields R) → more.entries ≡ entries_of L w' → more.slots ≡ slots_from L.processes 0 (batches_of L w') → more.fixed ≡ length (batches_of L w')
        → AreFieldsOf L w' (record more { rounds = slice_set kept.rounds here.replayed_slots r'; announced = kept.announced; callers = slice_set kept.callers p x })
    fits_put r' x c is w' a b d more e f g = record {
      rounds_many = length-set kept.rounds here.replayed_slots r' ∙ now.at.keeps.fits.rounds_many;
      round = λ k less. round_put r' k less ∙ ap (λ (f : ℕ → R). f k) (sym a);
      announced_many = now.at.keeps.fits.announced_many;
      announcement = λ q less. now.at.keeps.fits.announcement q less ∙ ap (λ (f : ℕ → Option Entry). f q) (sym b);
      callers_many = length-set kept.callers p x ∙ now.at.keeps.fits.callers_many;
      caller = λ q less. rw d (caller_put L now.at.keeps.fits now.at.process x c is q less);
      entries_are = e;
      slots_are = f;
      fixed_is = g;
    }

-- a process in the round of its slot
module _ {R : Type 0} {L : Setting R} {Good : R → Type 0} {s : List Event} {kept : Fields R} {p : ℕ} {mine : Entry} {here : CallerState} (run : IsReadCaller L Good s kept p (Runs mine) here) where
  runs_holds : Holds L Good (w run)
  runs_holds = holds_after L Good run.agrees s run.at.keeps.events

  runs_pending : IsPending L (w run) p mine
  runs_pending = let h : PhaseHolds L (w run) p (Runs mine) = subst (PhaseHolds L (w run) p) run.at.phase_is (runs_holds.phases p) in h

  runs_is : IsCallerState L here (caller run)
  runs_is = caller_is run runs_pending

  pub runs_room : here.replayed_slots < L.capacity
  runs_room = room run runs_pending

  pub runs_in_rounds : here.replayed_slots < length kept.rounds
  runs_in_rounds = in_rounds run runs_pending

  pub runs_good : (r : R) → r ≡ get_or kept.rounds here.replayed_slots r → Good r
  runs_good r e = round_good run runs_pending r e

  has_begun : (v : Batch) × (L.consensus.input ((w run).round (k0 run)) p ≡ Some v) × (L.consensus.decided ((w run).round (k0 run)) p ≡ None)
  has_begun = runs_holds.running p (subst IsRuns (sym run.at.phase_is) tt)

  pub runs_begun : (r : R) → r ≡ get_or kept.rounds here.replayed_slots r → (v : Batch) × (L.consensus.input r p ≡ Some v) × (L.consensus.decided r p ≡ None)
  runs_begun r e = subst (λ (z : R). (v : Batch) × (L.consensus.input z p ≡ Some v) × (L.consensus.decided z p ≡ None)) (sym (round_is run runs_pending r e)) has_begun

  -- a process has replayed at most as many entries as this many slots can take
  pub seen_most : L.capacity ≤ MOST_SLOTS → here.replayed_entries ≤ MOST_ENTRIES
  seen_most few =
      let e = entries_few_in L.processes (caller run).seen in
      let m : L.processes * length (caller run).seen ≤ 8 * length (caller run).seen = mul-le-mul_right (length (caller run).seen) run.agrees.few in
      let r = runs_pending.room in
      let a = runs_is.replayed_entries in
      omega (arith, e, m, r, a, few)

  pub calls_places : length here.calls_seen.calls ≡ 8
  calls_places = runs_is.calls_places

  -- and at most as many calls of one process
  pub calls_most : L.capacity ≤ MOST_SLOTS → (q : ℕ) → q < L.processes → count_at here.calls_seen q ≤ MOST_ENTRIES
  calls_most few q low =
      let m = seen_most few in
      let a = runs_is.replayed_entries in
      let c = runs_is.calls_seen q low in
      let o = own_few q (entries_in L.processes (caller run).seen) in
      omega (arith, m, a, c, o)

  pub mine_low : mine.process < L.processes
  mine_low = let e = runs_pending.process in let lt = run.at.process in omega (arith, e, lt)

  pub mine_operation : mine.operation.0 < length L.object.operations
  mine_operation = known_operation L Good run.agrees s run.at.keeps.events mine runs_pending.called

  -- if slot k is the next one to be fixed, there is room for its entries
  room_for : (many : ℕ) → many ≤ L.processes * length (batches_of L (w run)) → kept.fixed ≡ here.replayed_slots → many + L.processes ≤ L.processes * L.capacity
  room_for many few next =
      let f = run.at.keeps.fits.fixed_is in
      let r = runs_room in
      let g : length (batches_of L (w run)) + 1 ≤ L.capacity = omega (arith, f, r, next) in
      let m = mul-le-mul_right L.processes g in
      let a = add-mul (length (batches_of L (w run))) 1 L.processes in
      let b = mul_comm L.processes (length (batches_of L (w run))) in
      let d = mul_comm L.processes L.capacity in
      omega (arith, few, m, a, b, d)

  pub entries_room : kept.fixed ≡ here.replayed_slots → length kept.entries + L.processes ≤ L.processes * L.capacity
  entries_room next = let e = ap length run.at.keeps.fits.entries_are in let f = entries_few_in L.processes (batches_of L (w run)) in room_for (length kept.entries) (omega (arith, e, f)) next

  pub slots_room : kept.fixed ≡ here.replayed_slots → length kept.slots + L.processes ≤ L.processes * L.capacity
  slots_room next =
      let e = ap length run.at.keeps.fits.slots_are in
      let m = slots_as_many L.processes 0 (batches_of L (w run)) in
      let f = entries_few_in L.processes (batches_of L (w run)) in
      room_for (length kept.slots) (omega (arith, e, f, m)) next

  may_step : MayStep L (w run) p
  may_step = record { process = run.at.process; in_call = λ idle. (let f : Runs mine ≡ Idle = sym run.at.phase_is ∙ idle in cc f) }

  events_then : IsEventList L (s ++ Step p ∷ [])
  events_then = may_push L s (Step p) run.at.keeps.events may_step

  module _ {r r' : R} (e : r ≡ get_or kept.rounds here.replayed_slots r) (e' : r' ≡ L.consensus.step p r) where
    stepped_is : r' ≡ L.consensus.step p ((w run).round (k0 run))
    stepped_is = e' ∙ ap (L.consensus.step p) (round_is run runs_pending r e)

    pub runs_good_then : Good r'
    runs_good_then = subst Good (sym stepped_is) (run.agrees.good_step ((w run).round (k0 run)) p has_begun.0 run.at.process (runs_holds.good (k0 run)) has_begun.1)

    abbrev after_with : Option Batch → World R
    after_with o = after_decision L (record (w run) { round = put (w run).round (k0 run) (L.consensus.step p ((w run).round (k0 run))) }) p (caller run) mine o

    after_is : (o : Option Batch) → L.consensus.decided r' p ≡ o → state_of L (s ++ Step p ∷ []) ≡ after_with o
    after_is o is = state_push L s (Step p) ∙ ap (λ ph. after_step L (w run) p (caller run) ph) run.at.phase_is ∙ ap after_with (ap (λ z. L.consensus.decided z p) (sym stepped_is) ∙ is)

    answer_is : (o : Option Batch) → L.consensus.decided r' p ≡ o → answer L s p ≡ answer_with L (caller run).seen mine o
    answer_is o is = ap (answer_from L (w run) p (caller run)) run.at.phase_is ∙ ap (answer_with L (caller run).seen mine) (ap (λ z. L.consensus.decided z p) (sym stepped_is) ∙ is)

    abbrev more : List Batch
    more = next_batch kept.fixed here.replayed_slots (L.consensus.fixed r')

    -- the batches with that of the slot that has just been fixed
    batches_then : (w' : World R) → w'.round ≡ put (w run).round (k0 run) r' → batches_of L w' ≡ batches_of L (w run) ++ more
    batches_then w' is =
        let bs = batches_of L (w run) in
        let now = entered_is L (w run).round (k0 run) r' bs (slots_low run runs_pending) runs_pending.room
        (λ j x h. fixed_of L Good run.agrees s run.at.keeps.events j x h)
        (elim (open_at L (w run).round L.capacity 0) [ inl full ↦ inl full | inr none ↦ inr (let z : 0 + length bs ≡ length bs = omega arith in rw z at none) ])
        (entries_few L (w run).round L.capacity 0)
        (λ j i y less h. in_order L Good run.agrees (w run) runs_holds j i y less h)
        (λ y h. ap L.consensus.fixed stepped_is ∙ run.agrees.keeps ((w run).round (k0 run)) p y run.at.process (runs_holds.good (k0 run)) h) in
        ap (fixed_from L L.capacity 0) is ∙ now ∙ next_is bs (k0 run) (L.consensus.fixed r') ∙ ap (λ m. bs ++ next_batch m (k0 run) (L.consensus.fixed r')) (sym run.at.keeps.fits.fixed_is)
        ∙ ap (λ k. bs ++ next_batch kept.fixed k (L.consensus.fixed r')) (sym runs_is.replayed_slots)

    entries_then : (w' : World R) → w'.round ≡ put (w run).round (k0 run) r' → kept.entries ++ entries_in L.processes more ≡ entries_of L w'
    entries_then w' is = ap (λ l. l ++ entries_in L.processes more) run.at.keeps.fits.entries_are
        ∙ sym (ap (entries_in L.processes) (batches_then w' is) ∙ entries_put L.processes (batches_of L (w run)) more)

    slots_then : (w' : World R) → w'.round ≡ put (w run).round (k0 run) r' → kept.slots ++ slots_from L.processes here.replayed_slots more ≡ slots_from L.processes 0 (batches_of L w')
    slots_then w' is =
        let z : 0 + length (batches_of L (w run)) ≡ kept.fixed = (let f = run.at.keeps.fits.fixed_is in omega (arith, f)) in
        ap (λ l. l ++ slots_from L.processes here.replayed_slots more) run.at.keeps.fits.slots_are
        ∙ ap (λ l. slots_from L.processes 0 (batches_of L (w run)) ++ l) (sym (next_slot L.processes kept.fixed here.replayed_slots (L.consensus.fixed r')))
        ∙ sym (ap (slots_from L.processes 0) (batches_then w' is) ∙ slots_put L.processes 0 (batches_of L (w run)) more
        ∙ ap (λ i. slots_from L.processes 0 (batches_of L (w run)) ++ slots_from L.processes i more) z)

    fixed_then : (w' : World R) → w'.round ≡ put (w run).round (k0 run) r' → kept.fixed + length more ≡ length (batches_of L w')
    fixed_then w' is = let e : length (batches_of L w') ≡ length (batches_of L (w run)) + length more = ap length (batches_then w' is)
        ∙ length-append (batches_of L (w run)) more in let f = run.at.keeps.fits.fixed_is in omega (arith, e, f)

    -- the fields after the step, with this progress of each process
    abbrev pub kept_then : List CallerState → Fields R
    kept_then callers = record {
      rounds = slice_set kept.rounds here.replayed_slots r';
      announced = kept.announced;
      callers = callers;
      entries = kept.entries ++ entries_in L.processes more;
      slots = kept.slots ++ slots_from L.processes here.replayed_slots more;
      fixed = kept.fixed + length more;
      entries_room = kept.entries_room;
      slots_room = kept.slots_room;
    }

    pub none_keeps : L.consensus.decided r' p ≡ None → Keeps L (s ++ Step p ∷ []) (kept_then kept.callers)
    none_keeps is = let fits = run.at.keeps.fits in record {
      events = events_then;
      fits = subst (λ v. AreFieldsOf L v (kept_then kept.callers)) (sym (after_is None is)) (record {
        rounds_many = length-set kept.rounds here.replayed_slots r' ∙ fits.rounds_many;
        round = λ k less. round_put run runs_pending r' k less ∙ ap (λ z. put (w run).round (k0 run) z k) stepped_is;
        announced_many = fits.announced_many;
        announcement = fits.announcement;
        callers_many = fits.callers_many;
        caller = fits.caller;
        entries_are = entries_then (after_with None) (ap (put (w run).round (k0 run)) (sym stepped_is));
        slots_are = slots_then (after_with None) (ap (put (w run).round (k0 run)) (sym stepped_is));
        fixed_is = fixed_then (after_with None) (ap (put (w run).round (k0 run)) (sym stepped_is));
      });
    }

    pub none_answer : L.consensus.decided r' p ≡ None → Working ≡ answer L s p
    none_answer is = sym (answer_is None is)

    module _ {x : Batch} (is : L.consensus.decided r' p ≡ Some x) where
      -- the decided batch is an input
      some_begun : IsBegun L (state_of L (s ++ Step p ∷ [])) (k0 run) x
      some_begun =
          let v = has_begun.0 in
          let w' = state_of L (s ++ Step p ∷ []) in
          let f : L.consensus.fixed (L.consensus.step p ((w run).round (k0 run))) ≡ Some x = run.agrees.decides (L.consensus.step p ((w run).round (k0 run))) p x run.at.process
          (run.agrees.good_step ((w run).round (k0 run)) p v run.at.process (runs_holds.good (k0 run)) has_begun.1) (ap (λ z. L.consensus.decided z p) (sym stepped_is) ∙ is) in
          let fixed' : L.consensus.fixed (w'.round (k0 run)) ≡ Some x = ap (λ (v : World R). L.consensus.fixed (v.round (k0 run))) (after_is (Some x) is)
          ∙ ap L.consensus.fixed (put_same (w run).round (k0 run) (L.consensus.step p ((w run).round (k0 run)))) ∙ f in
          fixed_begun L Good run.agrees w' (holds_after L Good run.agrees (s ++ Step p ∷ []) events_then) (k0 run) x fixed'

      -- so its entries are calls of the list, with known operations
      pub some_operation : (q : ℕ) (e : Entry) → entry_at x q ≡ Some e → e.operation.0 < length L.object.operations
      some_operation q e there =
          let b = some_begun in
          known_operation L Good run.agrees (s ++ Step p ∷ []) events_then e (b.called e (subst (λ i. entry_at x i ≡ Some e) (sym (b.shaped q e there)) there))

      pub some_keeps : (here' : CallerState) → here'.replayed_slots ≡ here.replayed_slots + 1 → here'.replayed_entries ≡ here.replayed_entries + length (members L.processes 0 x)
          → length here'.calls_seen.calls ≡ 8
          → ((q : ℕ) → q < L.processes → count_at here'.calls_seen q ≡ count_at here.calls_seen q + length (and_entry (entry_at x q) [])) → here'.calls ≡ here.calls
          → here'.phase ≡ phase_after L here.replayed_slots mine x
          → here'.state.0 ≡ state_after L.object here.state.0 (operations_of (members L.processes 0 x)) → here'.state.0 < length L.object.states
          → Keeps L (s ++ Step p ∷ []) (kept_then (slice_set kept.callers p here'))
      some_keeps here' replayed_slots seen places calls_seen calls phase state known =
          let c : Caller = record { seen = (caller run).seen ++ x ∷ []; calls = (caller run).calls; phase = phase_after L (k0 run) mine x } in
          let all : entries_in L.processes ((caller run).seen ++ x ∷ []) ≡ entries_in L.processes (caller run).seen ++ members L.processes 0 x = entries_put L.processes (caller run).seen (x ∷ [])
          ∙ ap (λ l. entries_in L.processes (caller run).seen ++ l) (append-nil (members L.processes 0 x)) in
          let now : IsCallerState L here' c = record {
            replayed_slots = (let n : length ((caller run).seen ++ x ∷ []) ≡ length (caller run).seen + 1 = length-append (caller run).seen (x ∷ []) in let a = runs_is.replayed_slots in omega arith);
            replayed_entries = (let n = ap length all ∙ length-append (entries_in L.processes (caller run).seen) (members L.processes 0 x) in let a = runs_is.replayed_entries in
                omega (arith, seen, n, a));
            calls_places = places;
            calls_seen = λ q low. (
                let a = calls_seen q low in
                let b = runs_is.calls_seen q low in
                let one = ap length (own_at L.processes q x some_begun.shaped low) in
                let n = ap length (push_batch L.processes q (caller run).seen x) ∙ length-append (entries_by q (entries_in L.processes (caller run).seen)) (entries_by q (members L.processes 0 x)) in
                omega (arith, a, b, one, n)
                );
            calls = calls ∙ runs_is.calls;
            phase = phase ∙ ap (λ k. phase_after L k mine x) runs_is.replayed_slots;
            state = state ∙ ap (λ z. state_after L.object z (operations_of (members L.processes 0 x))) runs_is.state
                ∙ sym (run_join L.object L.start (entries_in L.processes (caller run).seen) (members L.processes 0 x)) ∙ ap (λ l. state_after L.object L.start (operations_of l)) (sym all);
            known = known;
          } in
          record {
            events = events_then;
            fits = subst (λ v. AreFieldsOf L v (kept_then (slice_set kept.callers p here'))) (sym (after_is (Some x) is))
                (fits_put run runs_pending r' here' c now (after_with (Some x)) (ap (put (w run).round (k0 run)) (sym stepped_is)) refl refl (kept_then kept.callers)
                (entries_then (after_with (Some x)) (ap (put (w run).round (k0 run)) (sym stepped_is))) (slots_then (after_with (Some x)) (ap (put (w run).round (k0 run)) (sym stepped_is)))
                (fixed_then (after_with (Some x)) (ap (put (w run).round (k0 run)) (sym stepped_is))));
          }

      -- the answer is the response at its place in the batch
      reply_at : transition L.object mine.operation.0 (state_after L.object (object_after L (entries_in L.processes (caller run).seen)) (operations_of (members mine.process 0 x)))
          ≡ transition L.object mine.operation.0 (object_after L (entries_in L.processes (caller run).seen ++ members mine.process 0 x))
      reply_at = ap (transition L.object mine.operation.0) (sym (run_join L.object L.start (entries_in L.processes (caller run).seen) (members mine.process 0 x)))

      pub some_answer : (a : StepAnswer) → a ≡ step_answer L here.replayed_slots here.state.0 mine x → a ≡ answer L s p
      some_answer a h = h ∙ ap (λ k. step_answer L k here.state.0 mine x) runs_is.replayed_slots ∙ ap (λ z. step_answer L (k0 run) z mine x) runs_is.state
          ∙ ap (λ (z : ℕ × ℕ). if has x mine then Answered (k0 run) (record { 0 = z.0 }) else (if (k0 run) + 1 == L.capacity then Full else Working)) reply_at ∙ sym (answer_is (Some x) is)

-- a process that looks at the announcements
module _ {R : Type 0} {L : Setting R} {Good : R → Type 0} {s : List Event} {kept : Fields R} {p : ℕ} {mine : Entry} {q : ℕ} {batch : Batch} {here : CallerState}
    (look : IsReadCaller L Good s kept p (Looks mine q batch) here) where
  looks_holds : Holds L Good (w look)
  looks_holds = holds_after L Good look.agrees s look.at.keeps.events

  looking : IsLooking L (w look) p mine q batch
  looking = let h : PhaseHolds L (w look) p (Looks mine q batch) = subst (PhaseHolds L (w look) p) look.at.phase_is (looks_holds.phases p) in h

  looks_is : IsCallerState L here (caller look)
  looks_is = caller_is look looking.pending

  pub looks_next : q < L.processes
  looks_next = looking.next

  pub looks_phase : here.phase ≡ Looks mine q batch
  looks_phase = looks_is.phase ∙ look.at.phase_is

  pub looks_in_announced : q < length kept.announced
  looks_in_announced = let a = looking.next in let b = look.at.keeps.fits.announced_many in omega (arith, a, b)

  pub looks_in_rounds : here.replayed_slots < length kept.rounds
  looks_in_rounds = in_rounds look looking.pending

  pub looks_good : (r : R) → r ≡ get_or kept.rounds here.replayed_slots r → Good r
  looks_good r e = round_good look looking.pending r e

  looks_may_step : MayStep L (w look) p
  looks_may_step = record { process = look.at.process; in_call = λ idle. (let f : Looks mine q batch ≡ Idle = sym look.at.phase_is ∙ idle in cc f) }

  -- the batch that the process has after the look
  abbrev v : Batch
  v = batch_with ((w look).announced q) (entries_in L.processes (caller look).seen) q batch

  pub gathered_is : (b : Batch) → b ≡ batch_with_calls (get_or kept.announced q None) (count_at here.calls_seen q) q batch → b ≡ v
  gathered_is b e = e ∙ ap (λ o. batch_with_calls o (count_at here.calls_seen q) q batch) (look.at.keeps.fits.announcement q looking.next)
      ∙ ap (λ c. batch_with_calls ((w look).announced q) c q batch) (looks_is.calls_seen q looking.next)
      ∙ gathered_by_number L Good look.agrees s look.at.keeps.events p q batch

  now_is : (last : Bool) → (q + 1 == L.processes) ≡ last → state_of L (s ++ Step p ∷ []) ≡ after_gathering L (w look) p (caller look) mine q v last
  now_is last e = state_push L s (Step p) ∙ ap (λ ph. after_step L (w look) p (caller look) ph) look.at.phase_is ∙ ap (after_gathering L (w look) p (caller look) mine q v) e

  caller_now : (phase : Phase) → IsCallerState L (record here { phase = phase }) (record { seen = (caller look).seen; calls = (caller look).calls; phase = phase })
  caller_now phase = record {
    replayed_slots = looks_is.replayed_slots;
    replayed_entries = looks_is.replayed_entries;
    calls_places = looks_is.calls_places;
    calls_seen = looks_is.calls_seen;
    calls = looks_is.calls;
    phase = refl;
    state = looks_is.state;
    known = looks_is.known;
  }

  pub gather_keeps : (b : Batch) → b ≡ v → (q + 1 == L.processes) ≡ false
      → Keeps L (s ++ Step p ∷ []) (record kept { callers = slice_set kept.callers p (record here { phase = Looks mine (q + 1) b }) })
  gather_keeps b same last =
      let c : Caller = record { seen = (caller look).seen; calls = (caller look).calls; phase = Looks mine (q + 1) b } in
      let x : CallerState = record here { phase = Looks mine (q + 1) b } in
      let fits = look.at.keeps.fits in
      let now : state_of L (s ++ Step p ∷ []) ≡ record (w look) { caller = put (w look).caller p c } = now_is false last
      ∙ ap (λ (z : Batch). record (w look) { caller = put (w look).caller p (record { seen = (caller look).seen; calls = (caller look).calls; phase = Looks mine (q + 1) z }) }) (sym same) in
      record {
        events = may_push L s (Step p) look.at.keeps.events looks_may_step;
        fits = subst (λ z. AreFieldsOf L z (record kept { callers = slice_set kept.callers p x })) (sym now) (record {
          rounds_many = fits.rounds_many;
          round = fits.round;
          announced_many = fits.announced_many;
          announcement = fits.announcement;
          callers_many = length-set kept.callers p x ∙ fits.callers_many;
          caller = λ i less. caller_put L fits look.at.process x c (caller_now (Looks mine (q + 1) b)) i less;
          entries_are = fits.entries_are;
          slots_are = fits.slots_are;
          fixed_is = fits.fixed_is;
        });
      }

  pub looks_not_begun : (q + 1 == L.processes) ≡ true → (r : R) → r ≡ get_or kept.rounds here.replayed_slots r → L.consensus.input r p ≡ None
  looks_not_begun last r e = ap (λ z. L.consensus.input z p) (round_is look looking.pending r e)
      ∙ not_begun L Good look.agrees (w look) looks_holds p look.at.process mine q batch look.at.phase_is last

  pub begin_keeps : (r r' : R) → r ≡ get_or kept.rounds here.replayed_slots r → (b : Batch) → b ≡ v → r' ≡ L.consensus.begin p b r → (q + 1 == L.processes) ≡ true
      → Keeps L (s ++ Step p ∷ []) (record kept { rounds = slice_set kept.rounds here.replayed_slots r'; callers = slice_set kept.callers p (record here { phase = Runs mine }) })
  begin_keeps r r' e b chose e' last =
      let begun : R = L.consensus.begin p v ((w look).round (k0 look)) in
      let r'_is : r' ≡ begun = e' ∙ ap (λ c. L.consensus.begin p c r) chose ∙ ap (L.consensus.begin p v) (round_is look looking.pending r e) in
      let c : Caller = record { seen = (caller look).seen; calls = (caller look).calls; phase = Runs mine } in
      let x : CallerState = record here { phase = Runs mine } in
      let same : (k : ℕ) → L.consensus.fixed (put (w look).round (k0 look) begun k) ≡ L.consensus.fixed ((w look).round k) = λ k. elim (cases_eq k (k0 look)) [
        | inl f ↦ rw (f, put_same (w look).round (k0 look) begun) (look.agrees.quiet ((w look).round (k0 look)) p v)
        | inr ne ↦ ap L.consensus.fixed (put_other (w look).round (k0 look) begun k ne)
      ] in
      let bs : batches_of L (after_gathering L (w look) p (caller look) mine q v true) ≡ batches_of L (w look) = fixed_from_same L (w look).round
      (put (w look).round (k0 look) begun) same L.capacity 0 in
      record {
        events = may_push L s (Step p) look.at.keeps.events looks_may_step;
        fits = subst (λ z. AreFieldsOf L z (record kept { rounds = slice_set kept.rounds here.replayed_slots r'; callers = slice_set kept.callers p x })) (sym (now_is true last))
            (fits_put look looking.pending r' x c (caller_now (Runs mine)) (after_gathering L (w look) p (caller look) mine q v true) (ap (put (w look).round (k0 look)) (sym r'_is)) refl refl kept
            (look.at.keeps.fits.entries_are ∙ ap (entries_in L.processes) (sym bs)) (look.at.keeps.fits.slots_are ∙ ap (slots_from L.processes 0) (sym bs))
            (look.at.keeps.fits.fixed_is ∙ ap length (sym bs)));
      }
