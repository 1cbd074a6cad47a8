-- The effect of events on the knowledge of a process.
use Rattle.std.proofs.Common.{ℕ, zero, suc, ◌≡◌, ◌≢◌, ◌⊎◌, inl, inr, Bool, true, false, ◌+◌, ◌<◌, ◌≤◌, ◌==◌, List, [], ◌∷◌, ◌++◌, length, drop, slice_get, Option, Some, None, refl, sym, ap, ◌∙◌, subst, arith, length-append}
use Rattle.std.proofs.lemmas.List.{take-append-drop}
use Rattle.std.proofs.lemmas.Bool.Decides.{nat_tests}
use Rattle.cn_log.specs.declared.batch.Batch.{Batch}
use Rattle.cn_log.specs.declared.entry.Entry.{Entry}
use Rattle.cn_log.specs.Batches.{HoldsEntry, has, entry_at, members, entries_in}
use Rattle.cn_log.specs.declared.event.Event.{Event}
use Rattle.cn_log.specs.declared.event.Event.TheVariants.{Invoke, Step}
use Rattle.cn_log.specs.declared.event.StepAnswer.{StepAnswer}
use Rattle.cn_log.specs.declared.event.StepAnswer.TheVariants.{Working}
use Rattle.cn_log.specs.declared.caller_state.Phase.{Phase}
use Rattle.cn_log.specs.declared.caller_state.Phase.TheVariants.{Idle, Looks, Runs}
use Rattle.cn_log.specs.Agreement.{RoundsAgree}
use Rattle.cn_log.specs.Callers.{BeginsWith, IsUnseen, process_of, HasNoEventOf, pending_in, call_of, caller_of, entries_by, seen_of, IsPendingCall, IsStepped, SeesOther}
use Rattle.cn_log.specs.Linearized.{calls_of}
use Rattle.cn_log.specs.Log.{Setting, World, Caller, Called, put, IsEventList, batches, entries, batch_with, first_look, after_gathering, after_decision, after_step, after_event, after_events, first_world, state_of, phase_after, answer, answer_from, answer_with}
use Rattle.cn_log.proofs.ListLemmas.EventLists.{run_append, may_right}
use Rattle.cn_log.proofs.BoundLemmas.Progress.{seen_few}
use Rattle.cn_log.proofs.ListLemmas.BatchMembers.{has_is, has_isnt}
use Rattle.cn_log.proofs.ListLemmas.EntryPositions.{entries_put}
use Rattle.cn_log.proofs.ListLemmas.OwnEntries.{own_none, own_one}
use Rattle.cn_log.proofs.InvariantLemmas.Invariant.{IsNoted, IsCalled, IsMine, IsSeen, IsShaped, PhaseHolds, Holds, fixed_begun, stands_once}
use Rattle.cn_log.proofs.InvariantLemmas.Linearization.{facts_after, holds_after, prefix_may, batch_of}
use Rattle.cn_log.proofs.ListLemmas.Places.{put_same, put_other, get_low, get_push_new, get_push_old, get_push_cases, take_front}
use Rattle.cn_log.proofs.InvariantLemmas.Notes.{IsInvoked, noted_invoked, calls_run}

module _ {R : Type 0} (L : Setting R) where
  other_decision : (w : World R) (q p : ℕ) (here : Caller) (mine : Entry) (o : Option Batch) → p ≢ q → (after_decision L w q here mine o).caller p ≡ w.caller p
  other_decision w q p here mine None ne = refl
  other_decision w q p here mine (Some x) ne = put_other w.caller q _ p ne

  other_gathering : (w : World R) (q p : ℕ) (here : Caller) (mine : Entry) (i : ℕ) (batch : Batch) (b : Bool) → p ≢ q → (after_gathering L w q here mine i batch b).caller p ≡ w.caller p
  other_gathering w q p here mine i batch false ne = put_other w.caller q _ p ne
  other_gathering w q p here mine i batch true ne = put_other w.caller q _ p ne

  other_step : (w : World R) (q p : ℕ) (here : Caller) (ph : Phase) → p ≢ q → (after_step L w q here ph).caller p ≡ w.caller p
  other_step w q p here Idle ne = refl
  other_step w q p here (Looks mine i batch) ne = other_gathering w q p here mine i (batch_with (w.announced i) (entries_in L.processes here.seen) i batch) (i + 1 == L.processes) ne
  other_step w q p here (Runs mine) ne =
      let r : R = L.consensus.step q (w.round (length here.seen)) in
      other_decision (record w { round = put w.round (length here.seen) r }) q p here mine (L.consensus.decided r q) ne

  -- an event of another process changes nothing of the knowledge of the process
  pub other_event : (w : World R) (e : Event) (p : ℕ) → process_of e ≢ p → (after_event L w e).caller p ≡ w.caller p
  other_event w (Invoke q operation) p ne = put_other w.caller q _ p (λ i. ne (sym i))
  other_event w (Step q) p ne = other_step w q p (w.caller q) (w.caller q).phase (λ i. ne (sym i))

  other_events : (events : List Event) (w : World R) (p : ℕ) → HasNoEventOf p events → (after_events L events w).caller p ≡ w.caller p
  other_events [] w p h = refl
  other_events (e ∷ events) w p h = other_events events (after_event L w e) p h.1 ∙ other_event w e p h.0

  pub stays : (before rest : List Event) (p : ℕ) → HasNoEventOf p rest → caller_of L (before ++ rest) p ≡ caller_of L before p
  stays before rest p h = ap (λ (w : World R). w.caller p) (run_append L before rest (first_world L)) ∙ other_events rest (state_of L before) p h

  pub invoked : (events : List Event) (p operation : ℕ)
      → caller_of L (events ++ Invoke p operation ∷ []) p ≡ record
      { seen = (caller_of L events p).seen; calls = (caller_of L events p).calls + 1; phase = first_look (call_of p operation (caller_of L events p).calls) }
  invoked events p operation = ap (λ (w : World R). w.caller p) (run_append L events (Invoke p operation ∷ []) (first_world L)) ∙ put_same (state_of L events).caller p _

  pub number : (events : List Event) (p : ℕ) → (caller_of L events p).calls ≡ calls_of p events
  number events p = let r = calls_run L events (first_world L) p in omega (arith, r)

  -- a step replays nothing and answers nothing, or it replays one batch
  abbrev Replays : Caller → Entry → Caller → StepAnswer → Type 0
  Replays here mine now given =
      ((pending_in now.phase ≡ Some mine) × (now.calls ≡ here.calls) × (now.seen ≡ here.seen) × (given ≡ Working))
      ⊎ ((x : Batch) × (now ≡ record { seen = here.seen ++ x ∷ []; calls = here.calls; phase = phase_after L (length here.seen) mine x }) × (given ≡ answer_with L here.seen mine (Some x)))

  replays_option : (w : World R) (p : ℕ) (here : Caller) (mine : Entry) (o : Option Batch) → w.caller p ≡ here → pending_in here.phase ≡ Some mine
      → Replays here mine ((after_decision L w p here mine o).caller p) (answer_with L here.seen mine o)
  replays_option w p here mine None is pending = inl (ap (λ (c : Caller). pending_in c.phase) is ∙ pending, ap (λ (c : Caller). c.calls) is, ap (λ (c : Caller). c.seen) is, refl)
  replays_option w p here mine (Some x) is pending = inr (x, put_same w.caller p _, refl)

  replays_gathering : (w : World R) (p : ℕ) (here : Caller) (m : Entry) (i : ℕ) (batch : Batch) (b : Bool) (mine : Entry) → Some m ≡ Some mine
      → Replays here mine ((after_gathering L w p here m i batch b).caller p) Working
  replays_gathering w p here m i batch false mine pending =
      let now : Caller = record here { phase = Looks m (i + 1) batch } in
      let same : (put w.caller p now) p ≡ now = put_same w.caller p now in
      inl (ap (λ (c : Caller). pending_in c.phase) same ∙ pending, ap (λ (c : Caller). c.calls) same, ap (λ (c : Caller). c.seen) same, refl)
  replays_gathering w p here m i batch true mine pending =
      let now : Caller = record here { phase = Runs m } in
      let same : (put w.caller p now) p ≡ now = put_same w.caller p now in
      inl (ap (λ (c : Caller). pending_in c.phase) same ∙ pending, ap (λ (c : Caller). c.calls) same, ap (λ (c : Caller). c.seen) same, refl)

  replays_phase : (w : World R) (p : ℕ) (here : Caller) (ph : Phase) (mine : Entry) → w.caller p ≡ here → here.phase ≡ ph → pending_in ph ≡ Some mine
      → Replays here mine ((after_step L w p here ph).caller p) (answer_from L w p here ph)
  replays_phase w p here Idle mine is phase pending = absurd (cc)
  replays_phase w p here (Looks m i batch) mine is phase pending = replays_gathering w p here m i (batch_with (w.announced i) (entries_in L.processes here.seen) i batch)
      (i + 1 == L.processes) mine pending
  replays_phase w p here (Runs m) mine is phase pending =
      let r : R = L.consensus.step p (w.round (length here.seen)) in
      let v : World R = record w { round = put w.round (length here.seen) r } in
      let same : m ≡ mine = cc in
      subst (λ (z : Entry). Replays here z ((after_decision L v p here m (L.consensus.decided r p)).caller p) (answer_with L here.seen m (L.consensus.decided r p))) same
      (replays_option v p here m (L.consensus.decided r p) is (ap pending_in phase))

  replays : (events : List Event) (p : ℕ) (mine : Entry) → pending_in (caller_of L events p).phase ≡ Some mine
      → Replays (caller_of L events p) mine (caller_of L (events ++ Step p ∷ []) p) (answer L events p)
  replays events p mine pending =
      let here : Caller = caller_of L events p in
      subst (λ (w : World R). Replays here mine (w.caller p) (answer L events p)) (sym (run_append L events (Step p ∷ []) (first_world L)))
      (replays_phase (state_of L events) p here here.phase mine refl refl pending)

module _ {R : Type 0} (L : Setting R) (Good : R → Type 0) (agrees : RoundsAgree L Good) (events : List Event) (p : ℕ) where
  abbrev here : Caller
  here = caller_of L events p

  module _ (may : IsEventList L events) where
    slot_of : (k : ℕ) (x : Batch) → slice_get here.seen k ≡ Some x → slice_get (batches L events) k ≡ Some x
    slot_of k x at =
        let low : k < length here.seen = get_low here.seen k x at in
        let few : length here.seen ≤ L.capacity = seen_few L Good agrees events may p in
        batch_of L Good agrees events may k x (omega (arith, low, few)) ((holds_after L Good agrees events may).seen p k x at)

    -- the log begins with the batches that a process has replayed
    pub replayed_batches : BeginsWith (batches L events) here.seen
    replayed_batches = (
      drop (length here.seen) (batches L events),
      sym (take-append-drop (length here.seen) (batches L events))
          ∙ ap (λ l. l ++ drop (length here.seen) (batches L events)) (take_front here.seen (batches L events) slot_of),
    )

    pub replayed : BeginsWith (entries L events) (seen_of L events p)
    replayed = (entries_in L.processes replayed_batches.0, ap (entries_in L.processes) replayed_batches.1 ∙ entries_put L.processes here.seen replayed_batches.0)

    pending_call : (ph : Phase) (mine : Entry) → pending_in ph ≡ Some mine → PhaseHolds L (state_of L events) p ph → IsPendingCall L events p mine
    pending_call Idle mine is h = absurd (cc)
    pending_call (Looks m i b) mine is h = let same : m ≡ mine = cc in subst (λ (z : Entry). IsPendingCall L events p z) same
        (record { process = h.pending.process; last = h.pending.call ∙ number L events p; unseen = h.pending.unseen; room = h.pending.room })
    pending_call (Runs m) mine is h = let same : m ≡ mine = cc in
        subst (λ (z : Entry). IsPendingCall L events p z) same (record { process = h.process; last = h.call ∙ number L events p; unseen = h.unseen; room = h.room })

    pub pending : (mine : Entry) → pending_in here.phase ≡ Some mine → IsPendingCall L events p mine
    pending mine is = pending_call here.phase mine is ((holds_after L Good agrees events may).phases p)

  module _ (may : IsEventList L (events ++ Step p ∷ [])) (mine : Entry) (is : pending_in here.phase ≡ Some mine) where
    abbrev w : World R
    w = state_of L events

    abbrev next : World R
    next = state_of L (events ++ Step p ∷ [])

    may_before : IsEventList L events
    may_before = prefix_may L Good agrees events (Step p ∷ []) may

    call : IsPendingCall L events p mine
    call = pending may_before mine is

    no_invoke : (x : Entry) → IsInvoked L (Step p ∷ []) w x → ⊥
    no_invoke x h = go h.at h.invoke
      where
        go : (k : ℕ) → slice_get (Step p ∷ []) k ≡ Some (Invoke x.process x.operation.0) → ⊥
        go zero e = let s : Step p ≡ Invoke x.process x.operation.0 = cc in cc
        go (suc k) e = cc

    called_before : (x : Entry) → IsCalled x next.history → IsCalled x w.history
    called_before x h = go (noted_invoked L x h.since (Step p ∷ []) w (subst (λ (u : World R). IsNoted (Called x h.since) u.history) (run_append L events (Step p ∷ []) (first_world L)) h.noted))
      where
        go : IsNoted (Called x h.since) w.history ⊎ IsInvoked L (Step p ∷ []) w x → IsCalled x w.history
        go (inl n) = record { since = h.since; noted = n }
        go (inr i) = absurd (no_invoke x i)

    is_mine : (ph : Phase) (x : Entry) → pending_in ph ≡ Some mine → IsMine ph x → x ≡ mine
    is_mine Idle x e h = absurd h
    is_mine (Looks m i b) x e h = cc
    is_mine (Runs m) x e h = cc

    -- an entry of its own that the process replays is its pending one
    own_is_mine : (x : Batch) → (next.caller p).seen ≡ here.seen ++ x ∷ [] → IsShaped x × ((e : Entry) → entry_at x p ≡ Some e → e ≡ mine)
    own_is_mine x seen =
        let holds' = holds_after L Good agrees (events ++ Step p ∷ []) may in
        let there : slice_get (next.caller p).seen (length here.seen) ≡ Some x = ap (λ l. slice_get l (length here.seen)) seen ∙ get_push_new here.seen x in
        let fixed = holds'.seen p (length here.seen) x there in
        let begun = fixed_begun L Good agrees next holds' (length here.seen) x fixed in (
          begun.shaped,
          λ e at. (let own : e.process ≡ p = begun.shaped p e at in let has : HoldsEntry x e = subst (λ q. entry_at x q ≡ Some e) (sym own) at in
              go e own has holds' fixed ((facts_after L Good agrees events may_before).done e (called_before e (begun.called e has)))),
        )
      where
        go : (e : Entry) → e.process ≡ p → HoldsEntry x e → Holds L Good next → L.consensus.fixed (next.round (length here.seen)) ≡ Some x
            → IsMine (w.caller e.process).phase e ⊎ (IsSeen (w.caller e.process).seen e ⊎ (L.capacity ≤ length (w.caller e.process).seen)) → e ≡ mine
        go e own has holds' fixed (inl mine_is) = is_mine here.phase e is (subst (λ q. IsMine (w.caller q).phase e) own mine_is)
        go e own has holds' fixed (inr (inl s)) =
            let was : slice_get here.seen s.slot ≡ Some s.batch = ap (λ q. slice_get (w.caller q).seen s.slot) (sym own) ∙ s.there in
            let now : slice_get (next.caller p).seen s.slot ≡ Some s.batch = ap (λ l. slice_get l s.slot) seen ∙ get_push_old here.seen x s.slot s.batch was in
            let same : s.slot ≡ length here.seen = stands_once L Good agrees next holds' s.slot (length here.seen) e (record { batch = s.batch; fixed = holds'.seen p s.slot s.batch now; has = s.has })
            (record { batch = x; fixed = fixed; has = has }) in
            let low = get_low here.seen s.slot s.batch was in
            absurd (omega (arith, same, low))
        go e own has holds' fixed (inr (inr full)) = let room = call.room in
            let whole : L.capacity ≤ length here.seen = subst (λ q. L.capacity ≤ length (w.caller q).seen) own full in absurd (omega (arith, room, whole))

    not_there : (x : Batch) → (HoldsEntry x mine → ⊥) → IsUnseen (here.seen ++ x ∷ []) mine
    not_there x other k b at has = elim (get_push_cases here.seen x k b at) [ inl old ↦ call.unseen k b old has | inr new ↦ other (subst (λ (z : Batch). HoldsEntry z mine) (sym new.1) has) ]

    mine_at : (x : Batch) → HoldsEntry x mine → entry_at x p ≡ Some mine
    mine_at x has = subst (λ q. entry_at x q ≡ Some mine) call.process has

    -- the batch has no entry of its own if it does not hold the pending one
    none_there : (x : Batch) → ((e : Entry) → entry_at x p ≡ Some e → e ≡ mine) → (HoldsEntry x mine → ⊥) → entry_at x p ≡ None
    none_there x own other = go (entry_at x p) refl
      where
        go : (o : Option Entry) → entry_at x p ≡ o → o ≡ None
        go None h = refl
        go (Some e) h = absurd (other (let same = own e h in subst (λ q. entry_at x q ≡ Some mine) (sym call.process) (h ∙ ap Some same)))

    sees_other : (x : Batch) → IsShaped x × ((e : Entry) → entry_at x p ≡ Some e → e ≡ mine) → (HoldsEntry x mine → ⊥) → (now : Caller) → now.seen ≡ here.seen ++ x ∷ [] → SeesOther L p here now
    sees_other x own other now seen = let none = none_there x own.1 other in record { batch = x; seen = seen; none = none; own = own_none L.processes 0 p x own.0 none }

    one_own : (x : Batch) → IsShaped x → p < L.processes → HoldsEntry x mine → entries_by p (members L.processes 0 x) ≡ mine ∷ []
    one_own x shaped lt has = own_one L.processes 0 p x mine shaped (omega (arith, lt)) (omega (arith, lt)) (mine_at x has)

    process_low : p < L.processes
    process_low = (let m = (may_right L events (Step p ∷ []) (first_world L) may).0 in m.process)

    replayed_one : (x : Batch) (is_mine is_last : Bool) → has x mine ≡ is_mine → (length here.seen + 1 == L.capacity) ≡ is_last → IsShaped x × ((e : Entry) → entry_at x p ≡ Some e → e ≡ mine)
        → IsStepped L p here mine (record { seen = here.seen ++ x ∷ []; calls = here.calls; phase = phase_after L (length here.seen) mine x }) (answer_with L here.seen mine (Some x))
    replayed_one x true is_last e f own = rw e
        (record { idle = refl; calls = refl; batch = x; seen = refl; there = mine_at x (has_is x mine e); own = one_own x own.0 process_low (has_is x mine e); slot = refl; response = refl })
    replayed_one x false true e f own = rw (e, f) (record {
      idle = refl;
      calls = refl;
      seen = sees_other x own (has_isnt x mine e) _ refl;
      all = (let last : length here.seen + 1 ≡ L.capacity = grind (arith, nat_tests) in omega (arith, last, length-append here.seen (x ∷ [])));
      unseen = not_there x (has_isnt x mine e);
    })
    replayed_one x false false e f own = rw (e, f) (record { pending = refl; calls = refl; seen = inr (sees_other x own (has_isnt x mine e) _ refl) })

    -- the change of the knowledge of a process with a call pending, by a step
    pub stepped : IsStepped L p here mine (next.caller p) (answer L events p)
    stepped = elim (replays L events p mine is) [
      | inl none ↦ subst (λ (a : StepAnswer). IsStepped L p here mine (next.caller p) a) (sym none.3) (record { pending = none.0; calls = none.1; seen = inl none.2 })
      | inr one ↦ subst (λ (z : Caller × StepAnswer). IsStepped L p here mine z.0 z.1) (λ i. (sym one.1 i, sym one.2 i))
          (replayed_one one.0 (has one.0 mine) (length here.seen + 1 == L.capacity) refl refl (own_is_mine one.0 (ap (λ (c : Caller). c.seen) one.1)))
    ]
