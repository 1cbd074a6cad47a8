-- A step of a round, and the replay after a decision, keep the invariant.
use Rattle.std.proofs.Common.{ℕ, zero, suc, ◌≡◌, ◌≢◌, ◌⊎◌, inl, inr, Bool, true, false, ◌+◌, ◌<◌, ◌≤◌, ◌==◌, List, [], ◌∷◌, ◌++◌, length, slice_get, Option, Some, None, refl, sym, ap, ◌∙◌, subst, arith, if◌then◌else◌, length-append}
use Rattle.std.proofs.lemmas.Bool.{cases_eq}
use Rattle.std.proofs.lemmas.Bool.Decides.{nat_tests}
use Rattle.cn_log.specs.declared.batch.Batch.{Batch}
use Rattle.cn_log.specs.declared.entry.Entry.{Entry}
use Rattle.cn_log.specs.Batches.{HoldsEntry, has}
use Rattle.cn_log.specs.Log.{Setting, World, Caller, Note, Called, Replied, FoundFull, put, phase_after, after_decision, after_step, first_look, response_in}
use Rattle.cn_log.specs.declared.caller_state.Phase.{Phase}
use Rattle.cn_log.specs.declared.caller_state.Phase.TheVariants.{Idle, Looks, Runs}
use Rattle.cn_log.specs.Agreement.{RoundsAgree}
use Rattle.cn_log.proofs.ListLemmas.Places.{put_same, put_other, get_push_cases, get_push_old, get_push_new, there_is}
use Rattle.cn_log.proofs.ListLemmas.BatchMembers.{has_is, has_isnt}
use Rattle.cn_log.proofs.InvariantLemmas.Invariant.{none_gathered, IsNoted, IsCalled, IsRuns, IsPending, PhaseHolds, IsOther, IsBegun, Holds, HasGathered, Facts, IsMine, IsSeen, Stands, StandsBy, IsReply, IsOrdered}

pub called_more : (e : Entry) (note : Note) (notes : List Note) → IsCalled e notes → IsCalled e (note ∷ notes)
called_more e note notes c = record { since = c.since; noted = record { place = suc c.noted.place; there = c.noted.there } }

module _ {R : Type 0} (L : Setting R) (Good : R → Type 0) (agrees : RoundsAgree L Good) (w : World R) (holds : Holds L Good w)
    (p : ℕ) (lt : p < L.processes) (mine : Entry) (is : (w.caller p).phase ≡ Runs mine) where
  abbrev here : Caller
  here = w.caller p

  abbrev k0 : ℕ
  k0 = length here.seen

  abbrev r' : R
  r' = L.consensus.step p (w.round k0)

  abbrev round' : ℕ → R
  round' = put w.round k0 r'

  pending : IsPending L w p mine
  pending = rw is at (holds.phases p)

  fixed_kept : (k : ℕ) (y : Batch) → L.consensus.fixed (w.round k) ≡ Some y → L.consensus.fixed (round' k) ≡ Some y
  fixed_kept k y h = elim (cases_eq k k0) [
    | inl e ↦ rw (e, put_same w.round k0 r') (agrees.keeps (w.round k0) p y lt (holds.good k0) (rw e at h))
    | inr ne ↦ rw (put_other w.round k0 r' k ne) h
  ]

  -- p has begun in the round, and not decided
  begun_here : (u : Batch) × (L.consensus.input (w.round k0) p ≡ Some u) × (L.consensus.decided (w.round k0) p ≡ None)
  begun_here = holds.running p (rw is tt)

  decided_same : (k q : ℕ) → q ≢ p → L.consensus.decided (round' k) q ≡ L.consensus.decided (w.round k) q
  decided_same k q away = elim (cases_eq k k0) [
    | inl e ↦ rw (e, put_same w.round k0 r') (agrees.decided_step (w.round k0) p q away)
    | inr ne ↦ rw (put_other w.round k0 r' k ne) refl
  ]

  input_same : (k q : ℕ) → L.consensus.input (round' k) q ≡ L.consensus.input (w.round k) q
  input_same k q = elim (cases_eq k k0) [
    | inl e ↦ rw (e, put_same w.round k0 r') (agrees.input_step (w.round k0) p q)
    | inr ne ↦ rw (put_other w.round k0 r' k ne) refl
  ]

  good_kept : (k : ℕ) → Good (round' k)
  good_kept k = elim (cases_eq k k0) [
    | inl e ↦ rw (e, put_same w.round k0 r') (agrees.good_step (w.round k0) p begun_here.0 lt (holds.good k0) begun_here.1)
    | inr ne ↦ rw (put_other w.round k0 r' k ne) (holds.good k)
  ]

  other_kept : (j : ℕ) (u : Entry) → IsOther L (w.round j) u → IsOther L (round' j) u
  other_kept j u o = record { batch = o.batch; fixed = fixed_kept j o.batch o.fixed; other = o.other }

  -- an input stays an input in a state with these rounds and at least the same calls
  begun_kept : (w'' : World R) → w''.round ≡ round' → ((e : Entry) → IsCalled e w.history → IsCalled e w''.history) → (k : ℕ) (u : Batch) → IsBegun L w k u → IsBegun L w'' k u
  begun_kept w'' same more k u b = record {
    shaped = b.shaped;
    called = λ e has. more e (b.called e has);
    other = λ e has j less. subst (λ (z : R). IsOther L z e) (ap (λ (f : ℕ → R). f j) (sym same)) (other_kept j e (b.other e has j less));
    turn = λ j less. (let x = b.turn j less in (x.0, ap (λ (f : ℕ → R). L.consensus.fixed (f j)) same ∙ fixed_kept j x.0 x.1));
  }

  keeps_none : L.consensus.decided r' p ≡ None → Holds L Good (record w { round = round' })
  keeps_none none = record {
    good = good_kept;
    seen = λ q k x h. fixed_kept k x (holds.seen q k x h);
    entered = λ k q u h. holds.entered k q u (rw input_same at h);
    running = λ q runs. (let r = holds.running q runs in (
      r.0,
      input_same (length (w.caller q).seen) q ∙ r.1,
      elim (cases_eq q p) [
        | inl e ↦ rw (e, put_same w.round k0 r') none
        | inr ne ↦ decided_same (length (w.caller q).seen) q ne ∙ r.2
      ],
    ));
    begun = λ k q u h. begun_kept (record w { round = round' }) refl (λ e c. c) k u (holds.begun k q u (sym (input_same k q) ∙ h));
    phases = λ q. phase_same q (w.caller q).phase (holds.phases q);
    announced = holds.announced;
    numbered = holds.numbered;
  }
    where
      pending_same : (q : ℕ) (e : Entry) → IsPending L w q e → IsPending L (record w { round = round' }) q e
      pending_same q e h = record { unseen = h.unseen; called = h.called; announced = h.announced; process = h.process; call = h.call; room = h.room }

      phase_same : (q : ℕ) (ph : Phase) → PhaseHolds L w q ph → PhaseHolds L (record w { round = round' }) q ph
      phase_same q Idle h = tt
      phase_same q (Looks e i b) h = record { pending = pending_same q e h.pending; next = h.next; gathered = h.gathered }
      phase_same q (Runs e) h = pending_same q e h

  module _ (x : Batch) (decided : L.consensus.decided r' p ≡ Some x) where
    abbrev caller' : Caller
    caller' = record { seen = here.seen ++ x ∷ []; calls = here.calls; phase = phase_after L k0 mine x }

    abbrev w' : World R
    w' = after_decision L (record w { round = round' }) p here mine (Some x)

    called_kept : (e : Entry) → IsCalled e w.history → IsCalled e w'.history
    called_kept e c = go (has x mine) (k0 + 1 == L.capacity)
      where
        go : (b d : Bool) → IsCalled e (if b then Replied mine k0 (response_in L here.seen x mine) ∷ w.history else (if d then FoundFull mine ∷ w.history else w.history))
        go true d = called_more e (Replied mine k0 (response_in L here.seen x mine)) w.history c
        go false true = called_more e (FoundFull mine) w.history c
        go false false = c

    -- the notes of calls are the same
    called_same : (e : Entry) → IsCalled e w'.history → IsCalled e w.history
    called_same e c = go (has x mine) (k0 + 1 == L.capacity) c
      where
        less : (note : Note) → ((since : ℕ) → note ≢ Called e since) → IsCalled e (note ∷ w.history) → IsCalled e w.history
        less note ne c = at c.noted.place c.noted.there
          where
            at : (k : ℕ) → slice_get (note ∷ w.history) k ≡ Some (Called e c.since) → IsCalled e w.history
            at zero h = absurd (ne c.since cc)
            at (suc k) h = record { since = c.since; noted = record { place = k; there = h } }

        go : (b d : Bool) → IsCalled e (if b then Replied mine k0 (response_in L here.seen x mine) ∷ w.history else (if d then FoundFull mine ∷ w.history else w.history)) → IsCalled e w.history
        go true d c = less (Replied mine k0 (response_in L here.seen x mine)) (λ since h. cc) c
        go false true c = less (FoundFull mine) (λ since h. cc) c
        go false false c = c

    length_is : length (here.seen ++ x ∷ []) ≡ k0 + 1
    length_is = length-append here.seen (x ∷ [])

    pending_other : (q : ℕ) (e : Entry) → q ≢ p → IsPending L w q e → IsPending L w' q e
    pending_other q e ne h =
        let s = put_other w.caller p caller' q ne in
        record { unseen = λ k b g. h.unseen k b (rw s at g); called = called_kept e h.called; announced = h.announced; process = h.process; call = rw s h.call; room = rw s h.room }

    phase_other : (q : ℕ) (ph : Phase) → q ≢ p → PhaseHolds L w q ph → PhaseHolds L w' q ph
    phase_other q Idle ne h = tt
    phase_other q (Looks e i b) ne h =
        let s = put_other w.caller p caller' q ne in
        let g = h.gathered in
        record {
          pending = pending_other q e ne h.pending;
          next = h.next;
          gathered = rw s (record { places = g.places; shaped = g.shaped; called = λ f has. called_kept f (g.called f has); unseen = g.unseen });
        }
    phase_other q (Runs e) ne h = pending_other q e ne h

    phase_mine : PhaseHolds L w' p (phase_after L k0 mine x)
    phase_mine = go (has x mine) (k0 + 1 == L.capacity) refl refl
      where
        go : (b d : Bool) → has x mine ≡ b → (k0 + 1 == L.capacity) ≡ d → PhaseHolds L w' p (if b then Idle else (if d then Idle else first_look mine))
        go true d e f = tt
        go false true e f = tt
        go false false e f =
            let s = put_same w.caller p caller' in
            let m : k0 + 1 ≢ L.capacity = grind (arith, nat_tests) in
            let room = pending.room in
            record {
              pending = record {
                unseen = λ k b g. elim (get_push_cases here.seen x k b (rw s at g))
                    [ inl was ↦ pending.unseen k b was | inr new ↦ subst (λ (z : Batch). HoldsEntry z mine → ⊥) new.1 (has_isnt x mine e) ];
                called = called_kept mine pending.called;
                announced = pending.announced;
                process = pending.process;
                call = rw s pending.call;
                room = rw (s, length_is) (omega arith);
              };
              next = let low = lt in grind arith;
              gathered = none_gathered _ _;
            }

    pub keeps_decided : Holds L Good w'
    keeps_decided = record {
      good = good_kept;
      seen = λ q k y h. elim (cases_eq q p) [
        | inl e ↦ elim (get_push_cases here.seen x k y (rw (e, put_same w.caller p caller') at h)) [
          | inl was ↦ fixed_kept k y (holds.seen p k y was)
          | inr new ↦ rw (new.0, put_same w.round k0 r', ← new.1) (agrees.decides r' p x lt (agrees.good_step (w.round k0) p begun_here.0 lt (holds.good k0) begun_here.1) decided)
        ]
        | inr ne ↦ fixed_kept k y (holds.seen q k y (rw (put_other w.caller p caller' q ne) at h))
      ];
      entered = λ k q u h. elim (cases_eq q p) [
        | inl e ↦ inl (rw (e, put_same w.caller p caller', length_is) (entered_mine k (holds.entered k p u (rw (e, input_same) at h))))
        | inr ne ↦ rw (put_other w.caller p caller' q ne) (holds.entered k q u (rw input_same at h))
      ];
      running = λ q runs. elim (cases_eq q p) [
        | inl e ↦ absurd (not_runs (rw (e, put_same w.caller p caller') at runs))
        | inr ne ↦ (let r = holds.running q (rw (put_other w.caller p caller' q ne) at runs) in
            (r.0, rw (put_other w.caller p caller' q ne) (input_same (length (w.caller q).seen) q ∙ r.1), rw (put_other w.caller p caller' q ne) (decided_same (length (w.caller q).seen) q ne ∙ r.2)))
      ];
      begun = λ k q u h. begun_kept w' refl called_kept k u (holds.begun k q u (sym (input_same k q) ∙ h));
      phases = λ q. elim (cases_eq q p) [
        | inl e ↦ rw (e, put_same w.caller p caller') phase_mine
        | inr ne ↦ rw (put_other w.caller p caller' q ne) (phase_other q (w.caller q).phase ne (holds.phases q))
      ];
      announced = λ q a h. (let c = holds.announced q a h in (called_kept a c.0, c.1));
      numbered = λ e c. elim (cases_eq e.process p) [
        | inl f ↦ rw (f, put_same w.caller p caller') (rw f at (holds.numbered e (called_same e c)))
        | inr ne ↦ rw (put_other w.caller p caller' e.process ne) (holds.numbered e (called_same e c))
      ];
    }
      where
        not_runs : IsRuns (phase_after L k0 mine x) → ⊥
        not_runs = go (has x mine) (k0 + 1 == L.capacity)
          where
            go : (b d : Bool) → IsRuns (if b then Idle else (if d then Idle else first_look mine)) → ⊥
            go true d r = r
            go false true r = r
            go false false r = r

        entered_mine : (k : ℕ) → (k < length (w.caller p).seen) ⊎ ((k ≡ length (w.caller p).seen) × IsRuns (w.caller p).phase) → k < k0 + 1
        entered_mine k (inl less) = omega arith
        entered_mine k (inr runs) = let e = runs.0 in omega arith

  module _ (facts : Facts L w) where
    none_before : (k : ℕ) → L.consensus.fixed (round' k) ≡ None → L.consensus.fixed (w.round k) ≡ None
    none_before k h = go (L.consensus.fixed (w.round k)) refl
      where
        go : (o : Option Batch) → L.consensus.fixed (w.round k) ≡ o → o ≡ None
        go None e = refl
        go (Some y) e = let f = fixed_kept k y e in absurd (cc (f, h))

    -- an entry in a slot was there before, or the slot has just been fixed
    stands_cases : (w'' : World R) → w''.round ≡ round' → (e : Entry) (k : ℕ) → Stands L w'' e k → (Stands L w e k) ⊎ ((k ≡ k0) × (L.consensus.fixed (w.round k) ≡ None))
    stands_cases w'' is' e k h = elim (cases_eq k k0) [
      | inl same ↦ go (L.consensus.fixed (w.round k)) refl same
      | inr ne ↦ inl (record { batch = h.batch; fixed = ap L.consensus.fixed (sym (put_other w.round k0 r' k ne)) ∙ now; has = h.has })
    ]
      where
        now : L.consensus.fixed (round' k) ≡ Some h.batch
        now = ap (λ (f : ℕ → R). L.consensus.fixed (f k)) (sym is') ∙ h.fixed

        go : (o : Option Batch) → L.consensus.fixed (w.round k) ≡ o → k ≡ k0 → (Stands L w e k) ⊎ ((k ≡ k0) × (L.consensus.fixed (w.round k) ≡ None))
        go None f same = inr (same, f)
        go (Some y) f same = let g = fixed_kept k y f in let n = now in inl (record { batch = h.batch; fixed = f ∙ (let t : Some y ≡ Some h.batch = sym g ∙ n in t); has = h.has })

    stood_now : (w'' : World R) → w''.round ≡ round' → (e : Entry) (since k : ℕ) → IsNoted (Called e since) w.history → Stands L w'' e k → since ≤ k
    stood_now w'' is' e since k noted h = elim (stands_cases w'' is' e k h) [
      | inl was ↦ facts.stood e since k noted was
      | inr new ↦ facts.since_low e since noted k (rw new.0 pending.room) new.1
    ]

    abbrev stands_kept : (w'' : World R) → w''.round ≡ round' → (e : Entry) (k : ℕ) → Stands L w e k → Stands L w'' e k
    stands_kept w'' is' e k h = record { batch = h.batch; fixed = ap (λ (f : ℕ → R). L.consensus.fixed (f k)) is' ∙ fixed_kept k h.batch h.fixed; has = h.has }

    by_kept : (w'' : World R) → w''.round ≡ round' → (e : Entry) (k : ℕ) → StandsBy L w e k → StandsBy L w'' e k
    by_kept w'' is' e k s = record { slot = s.slot; low = s.low; stands = stands_kept w'' is' e s.slot s.stands }

    reply_kept : (w'' : World R) → w''.round ≡ round' → (e : Entry) (k r : ℕ) → IsReply L w e k r → IsReply L w'' e k r
    reply_kept w'' same e k r a = record {
      stands = stands_kept w'' same e k a.stands;
      within = a.within;
      before = a.before;
      many = a.many;
      are = λ j x h. ap (λ (f : ℕ → R). L.consensus.fixed (f j)) same ∙ fixed_kept j x (a.are j x h);
      reply = a.reply;
    }

    gathers_kept : (w'' : World R) → w''.round ≡ round' → ((e : Entry) (since : ℕ) → IsNoted (Called e since) w''.history → IsNoted (Called e since) w.history) → (seen : List Batch) (ph : Phase)
        → HasGathered L w seen ph → HasGathered L w'' seen ph
    gathers_kept w'' same less seen Idle h = tt
    gathers_kept w'' same less seen (Looks m i b) h = λ e since noted low at. elim (h e since (less e since noted) low at) [ inl has ↦ inl has | inr s ↦ inr (by_kept w'' same e (length seen) s) ]
    gathers_kept w'' same less seen (Runs m) h = tt

    helps_kept : (w'' : World R) → w''.round ≡ round' → (e : Entry) (since : ℕ) → IsNoted (Called e since) w.history → e.process < L.processes → (k q : ℕ) (v : Batch) → since < k → k < L.capacity
        → L.consensus.input (round' k) q ≡ Some v → HoldsEntry v e ⊎ StandsBy L w'' e k
    helps_kept w'' same e since noted low k q v less room h =
        elim (facts.helps e since noted low k q v less room (sym (input_same k q) ∙ h)) [ inl has ↦ inl has | inr s ↦ inr (by_kept w'' same e k s) ]

    none_facts : Facts L (record w { round = round' })
    none_facts = record {
      since_low = λ e since noted k room h. facts.since_low e since noted k room (none_before k h);
      stood = stood_now (record w { round = round' }) refl;
      answered = λ e k r noted. reply_kept (record w { round = round' }) refl e k r (facts.answered e k r noted);
      ended = λ e noted k room. other_kept k e (facts.ended e noted k room);
      ordered = facts.ordered;
      done = facts.done;
      gathers = λ i. gathers_kept (record w { round = round' }) refl (λ e since n. n) (w.caller i).seen (w.caller i).phase (facts.gathers i);
      helps = helps_kept (record w { round = round' }) refl;
      earlier = λ e since noted f c q less. (let g = facts.earlier e since noted f c q less in (g.0, g.1, stands_kept (record w { round = round' }) refl f g.0 g.2));
      dense = facts.dense;
    }

    module _ (x : Batch) (decided : L.consensus.decided r' p ≡ Some x) where
      abbrev after' : Caller
      after' = record { seen = here.seen ++ x ∷ []; calls = here.calls; phase = phase_after L k0 mine x }

      abbrev w2 : World R
      w2 = after_decision L (record w { round = round' }) p here mine (Some x)

      abbrev reply : ℕ
      reply = (response_in L here.seen x mine)

      fixed_x : L.consensus.fixed (round' k0) ≡ Some x
      fixed_x = rw (put_same w.round k0 r') (agrees.decides r' p x lt (agrees.good_step (w.round k0) p begun_here.0 lt (holds.good k0) begun_here.1) decided)

      -- the notes afterwards are the old ones, or these with an answer or an end
      data More : List Note → Type 0 where
        Same : More w.history
        Answer : HoldsEntry x mine → More (Replied mine k0 reply ∷ w.history)
        End : (HoldsEntry x mine → ⊥) → k0 + 1 ≡ L.capacity → More (FoundFull mine ∷ w.history)

      more_now : More w2.history
      more_now = go (has x mine) (k0 + 1 == L.capacity) refl refl
        where
          go : (b d : Bool) → has x mine ≡ b → (k0 + 1 == L.capacity) ≡ d → More (if b then Replied mine k0 reply ∷ w.history else (if d then FoundFull mine ∷ w.history else w.history))
          go true d e f = Answer (has_is x mine e)
          go false true e f = End (has_isnt x mine e) (grind (arith, nat_tests))
          go false false e f = Same

      invoked_before : (e : Entry) (since : ℕ) → (notes : List Note) → More notes → IsNoted (Called e since) notes → IsNoted (Called e since) w.history
      invoked_before e since notes Same h = h
      invoked_before e since notes (Answer f) h = at h.place h.there
        where
          at : (k : ℕ) → slice_get (Replied mine k0 reply ∷ w.history) k ≡ Some (Called e since) → IsNoted (Called e since) w.history
          at zero g = absurd cc
          at (suc k) g = record { place = k; there = g }
      invoked_before e since notes (End f m) h = at h.place h.there
        where
          at : (k : ℕ) → slice_get (FoundFull mine ∷ w.history) k ≡ Some (Called e since) → IsNoted (Called e since) w.history
          at zero g = absurd cc
          at (suc k) g = record { place = k; there = g }

      answered_now : (notes : List Note) → More notes → (e : Entry) (k r : ℕ) → IsNoted (Replied e k r) notes → IsReply L w2 e k r
      answered_now notes Same e k r h = reply_kept w2 refl e k r (facts.answered e k r h)
      answered_now notes (Answer f) e k r h = at h.place h.there
        where
          fresh : IsReply L w2 mine k0 reply
          fresh = record {
            stands = record { batch = x; fixed = fixed_x; has = f };
            within = pending.room;
            before = here.seen;
            many = refl;
            are = λ j y g. fixed_kept j y (holds.seen p j y g);
            reply = refl;
          }

          at : (i : ℕ) → slice_get (Replied mine k0 reply ∷ w.history) i ≡ Some (Replied e k r) → IsReply L w2 e k r
          at zero g = let a : mine ≡ e = cc in let b : k0 ≡ k = cc in let c : reply ≡ r = cc in rw (← a, ← b, ← c) fresh
          at (suc i) g = reply_kept w2 refl e k r (facts.answered e k r (record { place = i; there = g }))
      answered_now notes (End f m) e k r h = at h.place h.there
        where
          at : (i : ℕ) → slice_get (FoundFull mine ∷ w.history) i ≡ Some (Replied e k r) → IsReply L w2 e k r
          at zero g = absurd cc
          at (suc i) g = reply_kept w2 refl e k r (facts.answered e k r (record { place = i; there = g }))

      ended_now : (notes : List Note) → More notes → (e : Entry) → IsNoted (FoundFull e) notes → (k : ℕ) → k < L.capacity → IsOther L (round' k) e
      ended_now notes Same e h k room = other_kept k e (facts.ended e h k room)
      ended_now notes (Answer f) e h k room = at h.place h.there
        where
          at : (i : ℕ) → slice_get (Replied mine k0 reply ∷ w.history) i ≡ Some (FoundFull e) → IsOther L (round' k) e
          at zero g = absurd cc
          at (suc i) g = other_kept k e (facts.ended e (record { place = i; there = g }) k room)
      ended_now notes (End f m) e h k room = at h.place h.there
        where
          fresh : (k < k0) ⊎ (k ≡ k0) → IsOther L (round' k) mine
          fresh (inl less) = let g = there_is here.seen k less in record { batch = g.0; fixed = fixed_kept k g.0 (holds.seen p k g.0 g.1); other = λ s. pending.unseen k g.0 g.1 s }
          fresh (inr same) = record { batch = x; fixed = rw same fixed_x; other = f }

          last : (k : ℕ) → k < L.capacity → k0 + 1 ≡ L.capacity → (k < k0) ⊎ (k ≡ k0)
          last k room m = grind arith

          at : (i : ℕ) → slice_get (FoundFull mine ∷ w.history) i ≡ Some (FoundFull e) → IsOther L (round' k) e
          at zero g = let a : mine ≡ e = cc in rw (← a) (fresh (last k room m))
          at (suc i) g = other_kept k e (facts.ended e (record { place = i; there = g }) k room)

      ordered_now : (notes : List Note) → More notes → IsOrdered notes
      ordered_now notes Same = facts.ordered
      ordered_now notes (Answer f) = facts.ordered
      ordered_now notes (End f m) = facts.ordered

      called_before : (e : Entry) → IsCalled e w2.history → IsCalled e w.history
      called_before e c = record { since = c.since; noted = invoked_before e c.since w2.history more_now c.noted }

      done_mine : (e : Entry) → IsMine (w.caller p).phase e ⊎ (IsSeen (w.caller p).seen e ⊎ (L.capacity ≤ length (w.caller p).seen))
          → IsMine (phase_after L k0 mine x) e ⊎ (IsSeen (here.seen ++ x ∷ []) e ⊎ (L.capacity ≤ length (here.seen ++ x ∷ [])))
      done_mine e (inl m) = let m' : mine ≡ e = rw is at m in go (has x mine) (k0 + 1 == L.capacity) refl refl m'
        where
          go : (b d : Bool) → has x mine ≡ b → (k0 + 1 == L.capacity) ≡ d → mine ≡ e
              → IsMine (if b then Idle else (if d then Idle else first_look mine)) e ⊎ (IsSeen (here.seen ++ x ∷ []) e ⊎ (L.capacity ≤ length (here.seen ++ x ∷ [])))
          go true d s f m' = inr (inl (record { slot = k0; batch = x; there = get_push_new here.seen x; has = subst (λ (z : Entry). HoldsEntry x z) m' (has_is x mine s) }))
          go false true s f m' = inr (inr (let q : k0 + 1 ≡ L.capacity = grind (arith, nat_tests) in let l : length (here.seen ++ x ∷ []) ≡ k0 + 1 = length-append here.seen (x ∷ []) in omega arith))
          go false false s f m' = inl m'
      done_mine e (inr (inl s)) = inr (inl (record { slot = s.slot; batch = s.batch; there = get_push_old here.seen x s.slot s.batch s.there; has = s.has }))
      done_mine e (inr (inr full)) = inr (inr (let l : length (here.seen ++ x ∷ []) ≡ k0 + 1 = length-append here.seen (x ∷ []) in omega arith))

      done_at : (e : Entry) (q : ℕ) → q ≡ p → IsMine (w.caller q).phase e ⊎ (IsSeen (w.caller q).seen e ⊎ (L.capacity ≤ length (w.caller q).seen))
          → IsMine (w2.caller q).phase e ⊎ (IsSeen (w2.caller q).seen e ⊎ (L.capacity ≤ length (w2.caller q).seen))
      done_at e q f h = rw (f, put_same w.caller p after') (done_mine e (rw f at h))

      decided_facts : Facts L w2
      decided_facts = record {
        since_low = λ e since noted k room h. facts.since_low e since (invoked_before e since w2.history more_now noted) k room (none_before k h);
        stood = λ e since k noted h. stood_now w2 refl e since k (invoked_before e since w2.history more_now noted) h;
        answered = answered_now w2.history more_now;
        ended = λ e noted k room. ended_now w2.history more_now e noted k room;
        ordered = ordered_now w2.history more_now;
        done = λ e c. elim (cases_eq e.process p) [
          | inl f ↦ done_at e e.process f (facts.done e (called_before e c))
          | inr ne ↦ rw (put_other w.caller p after' e.process ne) (facts.done e (called_before e c))
        ];
        gathers = λ i. elim (cases_eq i p) [
          | inl f ↦ rw (f, put_same w.caller p after') gathers_mine
          | inr ne ↦ subst (λ (z : Caller). HasGathered L w2 z.seen z.phase) (sym (put_other w.caller p after' i ne))
              (gathers_kept w2 refl (λ e since n. invoked_before e since w2.history more_now n) (w.caller i).seen (w.caller i).phase (facts.gathers i))
        ];
        helps = λ e since noted. helps_kept w2 refl e since (invoked_before e since w2.history more_now noted);
        earlier = λ e since noted f c q less.
            (let g = facts.earlier e since (invoked_before e since w2.history more_now noted) f (called_before f c) q less in (g.0, g.1, stands_kept w2 refl f g.0 g.2));
        dense = λ q c less. (let g = facts.dense q c (calls_at q c less) in (g.0, called_kept x decided g.0 g.1, g.2, g.3));
      }
        where
          gathers_mine : HasGathered L w2 (here.seen ++ x ∷ []) (phase_after L k0 mine x)
          gathers_mine = go (has x mine) (k0 + 1 == L.capacity)
            where
              go : (b d : Bool) → HasGathered L w2 (here.seen ++ x ∷ []) (if b then Idle else (if d then Idle else first_look mine))
              go true d = tt
              go false true = tt
              go false false = λ e since noted less low. absurd (omega (arith, low))

          calls_at : (q c : ℕ) → c < (w2.caller q).calls → c < (w.caller q).calls
          calls_at q c less = elim (cases_eq q p) [
            | inl f ↦ rw f (rw (f, put_same w.caller p after') at less)
            | inr ne ↦ rw (put_other w.caller p after' q ne) at less
          ]

    pub run_facts : Facts L (after_step L w p here (Runs mine))
    run_facts = go (L.consensus.decided r' p) refl
      where
        go : (o : Option Batch) → L.consensus.decided r' p ≡ o → Facts L (after_decision L (record w { round = round' }) p here mine o)
        go None e = none_facts
        go (Some x) e = decided_facts x e

  pub keeps_run : Holds L Good (after_step L w p here (Runs mine))
  keeps_run = go (L.consensus.decided r' p) refl
    where
      go : (o : Option Batch) → L.consensus.decided r' p ≡ o → Holds L Good (after_decision L (record w { round = round' }) p here mine o)
      go None e = keeps_none e
      go (Some x) e = keeps_decided x e
