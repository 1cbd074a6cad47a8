-- A look keeps the invariant.
use Rattle.std.proofs.Common.{ℕ, ◌≡◌, ◌≢◌, ◌⊎◌, inl, inr, Bool, true, false, ◌+◌, ◌<◌, ◌≤◌, ◌==◌, List, length, slice_get, Option, Some, None, refl, sym, ap, ◌∙◌, subst, arith, if◌then◌else◌}
use Rattle.std.proofs.lemmas.Bool.{cases_eq}
use Rattle.std.proofs.lemmas.Bool.Decides.{nat_tests}
use Rattle.cn_log.specs.declared.batch.Batch.{Batch}
use Rattle.cn_log.specs.declared.entry.Entry.{Entry}
use Rattle.cn_log.specs.declared.caller_state.Phase.{Phase}
use Rattle.cn_log.specs.declared.caller_state.Phase.TheVariants.{Idle, Looks, Runs}
use Rattle.cn_log.specs.Agreement.{RoundsAgree}
use Rattle.cn_log.specs.Batches.{HoldsEntry, entry_at, with_entry, entries_in}
use Rattle.cn_log.specs.Callers.{IsUnseen}
use Rattle.cn_log.specs.Log.{Setting, World, Caller, Called, put, has_entry, batch_with, after_gathering, after_step}
use Rattle.cn_log.proofs.ListLemmas.Places.{put_same, put_other, has_not, has_yes, there_is, get_low}
use Rattle.cn_log.proofs.ListLemmas.BatchEntries.{places_after, with_cases, with_new, with_old}
use Rattle.cn_log.proofs.InvariantLemmas.Invariant.{IsNoted, IsCalled, IsRuns, IsPending, IsGathered, IsLooking, PhaseHolds, IsOther, IsBegun, Holds, HasGathered, Facts, IsMine, IsSeen, Stands, StandsBy, IsReply, in_order, fixed_begun}
use Rattle.cn_log.proofs.ListLemmas.EntryPositions.{of_entries, in_entries}

module _ {R : Type 0} (L : Setting R) (Good : R → Type 0) (agrees : RoundsAgree L Good) (w : World R) (holds : Holds L Good w)
    (p : ℕ) (lt : p < L.processes) (mine : Entry) (q : ℕ) (batch : Batch) (is : (w.caller p).phase ≡ Looks mine q batch) where
  abbrev here : Caller
  here = w.caller p

  abbrev k0 : ℕ
  k0 = length here.seen

  abbrev known : List Entry
  known = entries_in L.processes here.seen

  abbrev v : Batch
  v = batch_with (w.announced q) known q batch

  looking : IsLooking L w p mine q batch
  looking = let h : PhaseHolds L w p (Looks mine q batch) = subst (PhaseHolds L w p) is (holds.phases p) in h

  low_place : q < 8
  low_place = let a = looking.next in let b = agrees.few in omega (arith, a, b)

  -- an entry that is found is in a batch that was replayed; one that is not found is in none
  entry_seen : (e : Entry) → has_entry known e ≡ true → IsSeen here.seen e
  entry_seen e h =
      let y = has_yes known e h in
      let r = of_entries L.processes here.seen y.0 e y.2 in
      let s = (fixed_begun L Good agrees w holds r.slot r.batch (holds.seen p r.slot r.batch r.there)).shaped r.process e r.at in
      record { slot = r.slot; batch = r.batch; there = r.there; has = subst (λ z. entry_at r.batch z ≡ Some e) (sym s) r.at }

  not_found : (e : Entry) → e.process < L.processes → has_entry known e ≡ false → IsUnseen here.seen e
  not_found e low h k b there has = has_not known e h _ (in_entries L.processes here.seen k b e.process e there low has)

  -- the batch gathered now
  gathered_now : (a : Option Entry) → w.announced q ≡ a → IsGathered here.seen w.history (batch_with a known q batch)
  gathered_now None e = looking.gathered
  gathered_now (Some other) e = go (has_entry known other) refl
    where
      whose : other.process ≡ q
      whose = (holds.announced q other e).1

      new_called : (f : Entry) → other ≡ f → IsCalled f w.history
      new_called f same = subst (λ (z : Entry). IsCalled z w.history) same (holds.announced q other e).0

      new_unseen : has_entry known other ≡ false → (f : Entry) → other ≡ f → IsUnseen here.seen f
      new_unseen h f same = let n = looking.next in subst (λ (z : Entry). IsUnseen here.seen z) same (not_found other (omega (arith, n, whose)) h)

      go : (b : Bool) → has_entry known other ≡ b → IsGathered here.seen w.history (if b then batch else with_entry batch q other)
      go true h = looking.gathered
      go false h = record {
        places = places_after batch q other looking.gathered.places;
        shaped = λ i f at. elim (with_cases batch q other whose looking.gathered.places low_place i f at) [
          | inl new ↦ ap (λ (z : Entry). z.process) (sym new.1) ∙ whose ∙ sym new.0
          | inr old ↦ looking.gathered.shaped i f old
        ];
        called = λ f has. elim (with_cases batch q other whose looking.gathered.places low_place f.process f has) [
          | inl new ↦ new_called f new.1
          | inr old ↦ looking.gathered.called f old
        ];
        unseen = λ f has. elim (with_cases batch q other whose looking.gathered.places low_place f.process f has) [
          | inl new ↦ new_unseen h f new.1
          | inr old ↦ looking.gathered.unseen f old
        ];
      }

  module _ (facts : Facts L w) where
    -- if the slot is fixed, its batch holds e, or e is in an earlier slot
    helped : (e : Entry) (since : ℕ) → IsNoted (Called e since) w.history → e.process < L.processes → (y : Batch) → since < k0 → L.consensus.fixed (w.round k0) ≡ Some y → StandsBy L w e k0
    helped e since noted low y less h =
        let b = agrees.valid (w.round k0) y (holds.good k0) h in
        elim (facts.helps e since noted low k0 b.0 y less looking.pending.room b.1) [
          | inl has ↦ record { slot = k0; low = omega arith; stands = record { batch = y; fixed = h; has = has } }
          | inr s ↦ s
        ]

    -- a call of process q, made before the slot was the next one
    gathers_one : (e : Entry) (since : ℕ) → IsNoted (Called e since) w.history → since < k0 → e.process ≡ q → HoldsEntry v e ⊎ StandsBy L w e k0
    gathers_one e since noted less whose =
        go (w.caller e.process).phase refl (facts.done e (record { since = since; noted = noted }))
      where
        low : e.process < L.processes
        low = let n = looking.next in omega (arith, n, whose)

        cases_le : (a b : ℕ) → (a ≤ b) ⊎ (b < a)
        cases_le a b = grind arith

        seen_by : (s : IsSeen (w.caller e.process).seen e) → (s.slot ≤ k0) ⊎ (k0 < s.slot) → StandsBy L w e k0
        seen_by s (inl le) = record { slot = s.slot; low = le; stands = record { batch = s.batch; fixed = holds.seen e.process s.slot s.batch s.there; has = s.has } }
        seen_by s (inr gt) = let o = in_order L Good agrees w holds k0 s.slot s.batch gt (holds.seen e.process s.slot s.batch s.there) in helped e since noted low o.0 less o.1

        look : (b : Bool) → has_entry known e ≡ b → w.announced q ≡ Some e → HoldsEntry v e ⊎ StandsBy L w e k0
        look true h a = let f = entry_seen e h in let l = get_low here.seen f.slot f.batch f.there in
            inr (record { slot = f.slot; low = omega (arith, l); stands = record { batch = f.batch; fixed = holds.seen p f.slot f.batch f.there; has = f.has } })
        look false h a = inl (rw (a, h) (subst (λ z. entry_at (with_entry batch q e) z ≡ Some e) (sym whose) (with_new batch q e whose looking.gathered.places low_place)))

        announces : (mine' : Entry) → IsPending L w e.process mine' → mine' ≡ e → HoldsEntry v e ⊎ StandsBy L w e k0
        announces mine' pend same = look (has_entry known e) refl (ap w.announced (sym whose) ∙ pend.announced ∙ ap Some same)

        go : (ph : Phase) → (w.caller e.process).phase ≡ ph
            → IsMine (w.caller e.process).phase e ⊎ (IsSeen (w.caller e.process).seen e ⊎ (L.capacity ≤ length (w.caller e.process).seen)) → HoldsEntry v e ⊎ StandsBy L w e k0
        go Idle is' (inl m) = let m' : IsMine Idle e = subst (λ z. IsMine z e) is' m in elim m' [ ]
        go (Looks mine' i b) is' (inl m) = let h : IsLooking L w e.process mine' i b = subst (PhaseHolds L w e.process) is' (holds.phases e.process) in
            announces mine' h.pending (subst (λ z. IsMine z e) is' m)
        go (Runs mine') is' (inl m) = let h : IsPending L w e.process mine' = subst (PhaseHolds L w e.process) is' (holds.phases e.process) in announces mine' h (subst (λ z. IsMine z e) is' m)
        go ph is' (inr (inl s)) = inr (seen_by s (cases_le s.slot k0))
        go ph is' (inr (inr full)) = let room = looking.pending.room in let g = there_is (w.caller e.process).seen k0 (omega (arith, room, full)) in
            inr (helped e since noted low g.0 less (holds.seen e.process k0 g.0 g.1))

    -- entries gathered before stay
    gathered_kept : (a : Option Entry) (i : ℕ) → i ≢ q → entry_at (batch_with a known q batch) i ≡ entry_at batch i
    gathered_kept None i ne = refl
    gathered_kept (Some other) i ne = go (has_entry known other)
      where
        go : (b : Bool) → entry_at (if b then batch else with_entry batch q other) i ≡ entry_at batch i
        go true = refl
        go false = with_old batch q other i ne

    -- each call of the processes looked at
    pub gathers_now : (e : Entry) (since : ℕ) → IsNoted (Called e since) w.history → since < k0 → e.process < q + 1 → HoldsEntry v e ⊎ StandsBy L w e k0
    gathers_now e since noted less low = elim (cases_eq e.process q) [
      | inl whose ↦ gathers_one e since noted less whose
      | inr ne ↦ (let old : HasGathered L w here.seen (Looks mine q batch) = subst (HasGathered L w here.seen) is (facts.gathers p) in elim (old e since noted less (grind arith)) [
        | inl has ↦ inl (gathered_kept (w.announced q) e.process ne ∙ has)
        | inr s ↦ inr s
      ])
    ]

  seen_put : (c : Caller) → c.seen ≡ here.seen → (i : ℕ) → (put w.caller p c i).seen ≡ (w.caller i).seen
  seen_put c same i = elim (cases_eq i p) [
    | inl e ↦ rw (e, put_same w.caller p c) same
    | inr ne ↦ ap (λ (s : Caller). s.seen) (put_other w.caller p c i ne)
  ]

  calls_put : (c : Caller) → c.calls ≡ here.calls → (i : ℕ) → (put w.caller p c i).calls ≡ (w.caller i).calls
  calls_put c same i = elim (cases_eq i p) [
    | inl e ↦ rw (e, put_same w.caller p c) same
    | inr ne ↦ ap (λ (s : Caller). s.calls) (put_other w.caller p c i ne)
  ]

  -- a process that keeps its phase keeps this property for all rounds, if p keeps its batches and calls
  module _ (round : ℕ → R) (onward : Caller) (seen : onward.seen ≡ here.seen) (calls : onward.calls ≡ here.calls) where
    abbrev later : World R
    later = record w { round = round; caller = put w.caller p onward }

    pending_later : (i : ℕ) (e : Entry) → IsPending L w i e → IsPending L later i e
    pending_later i e h = record {
      unseen = subst (λ (z : List Batch). IsUnseen z e) (sym (seen_put onward seen i)) h.unseen;
      called = h.called;
      announced = h.announced;
      process = h.process;
      call = h.call ∙ sym (calls_put onward calls i);
      room = subst (λ (z : List Batch). length z < L.capacity) (sym (seen_put onward seen i)) h.room;
    }

    looking_later : (i : ℕ) (e : Entry) (j : ℕ) (b : Batch) → IsLooking L w i e j b → IsLooking L later i e j b
    looking_later i e j b h = record {
      pending = pending_later i e h.pending;
      next = h.next;
      gathered = subst (λ (z : List Batch). IsGathered z w.history b) (sym (seen_put onward seen i)) h.gathered;
    }

    holds_later : (i : ℕ) (ph : Phase) → PhaseHolds L w i ph → PhaseHolds L later i ph
    holds_later i Idle h = tt
    holds_later i (Looks e j b) h = looking_later i e j b h
    holds_later i (Runs e) h = pending_later i e h

  -- after a look at a process that is not the last one
  module _ (more : (q + 1 == L.processes) ≡ false) where
    abbrev looks : Caller
    looks = record here { phase = Looks mine (q + 1) v }

    abbrev w1 : World R
    w1 = record w { caller = put w.caller p looks }

    seen1 : (i : ℕ) → (w1.caller i).seen ≡ (w.caller i).seen
    seen1 i = seen_put looks refl i

    phase1 : (i : ℕ) → i ≢ p → (w1.caller i).phase ≡ (w.caller i).phase
    phase1 i ne = ap (λ (s : Caller). s.phase) (put_other w.caller p looks i ne)

    runs1 : (i : ℕ) → IsRuns (w1.caller i).phase → IsRuns (w.caller i).phase
    runs1 i runs = elim (cases_eq i p) [
      | inl e ↦ absurd (let r : IsRuns (Looks mine (q + 1) v) = rw (e, put_same w.caller p looks) at runs in r)
      | inr ne ↦ subst IsRuns (phase1 i ne) runs
    ]

    runs1_back : (i : ℕ) → IsRuns (w.caller i).phase → IsRuns (w1.caller i).phase
    runs1_back i runs = elim (cases_eq i p) [
      | inl e ↦ absurd (let r : IsRuns (Looks mine q batch) = rw (e, is) at runs in r)
      | inr ne ↦ subst IsRuns (sym (phase1 i ne)) runs
    ]

    mine1 : IsLooking L w1 p mine (q + 1) v
    mine1 = record {
      pending = pending_later w.round looks refl refl p mine looking.pending;
      next = (let ne : q + 1 ≢ L.processes = grind (arith, nat_tests) in let n = looking.next in grind arith);
      gathered = subst (λ (z : List Batch). IsGathered z w.history v) (sym (seen1 p)) (gathered_now (w.announced q) refl);
    }

    pub keeps_gather : Holds L Good w1
    keeps_gather = record {
      good = holds.good;
      seen = λ i k x h. holds.seen i k x (subst (λ (z : List Batch). slice_get z k ≡ Some x) (seen1 i) h);
      entered = λ k i u h. elim (holds.entered k i u h) [
        | inl less ↦ inl (subst (λ (z : List Batch). k < length z) (sym (seen1 i)) less)
        | inr runs ↦ inr (runs.0 ∙ ap (λ (z : List Batch). length z) (sym (seen1 i)), runs1_back i runs.1)
      ];
      running = λ i runs. subst (λ (z : List Batch). (u : Batch) × (L.consensus.input (w.round (length z)) i ≡ Some u) × (L.consensus.decided (w.round (length z)) i ≡ None))
          (sym (seen1 i)) (holds.running i (runs1 i runs));
      begun = λ k i u h. (let b = holds.begun k i u h in record { shaped = b.shaped; called = b.called; other = b.other; turn = b.turn });
      phases = λ i. elim (cases_eq i p) [
        | inl e ↦ rw (e, put_same w.caller p looks) mine1
        | inr ne ↦ rw (phase1 i ne) (holds_later w.round looks refl refl i (w.caller i).phase (holds.phases i))
      ];
      announced = holds.announced;
      numbered = λ e c. rw (calls_put looks refl e.process) (holds.numbered e c);
    }

    module _ (facts : Facts L w) where
      stands1 : (e : Entry) (k : ℕ) → Stands L w1 e k → Stands L w e k
      stands1 e k s = record { batch = s.batch; fixed = s.fixed; has = s.has }

      abbrev stands1_back : (e : Entry) (k : ℕ) → Stands L w e k → Stands L w1 e k
      stands1_back e k s = record { batch = s.batch; fixed = s.fixed; has = s.has }

      by1 : (e : Entry) (k : ℕ) → StandsBy L w e k → StandsBy L w1 e k
      by1 e k s = record { slot = s.slot; low = s.low; stands = stands1_back e s.slot s.stands }

      reply1 : (e : Entry) (k r : ℕ) → IsReply L w e k r → IsReply L w1 e k r
      reply1 e k r a = record { stands = stands1_back e k a.stands; within = a.within; before = a.before; many = a.many; are = a.are; reply = a.reply }

      mine_kept : (i : ℕ) (e : Entry) → IsMine (w.caller i).phase e → IsMine (w1.caller i).phase e
      mine_kept i e m = elim (cases_eq i p) [
        | inl f ↦ rw (f, put_same w.caller p looks) (let m' : IsMine (Looks mine q batch) e = rw (f, is) at m in m')
        | inr ne ↦ rw (phase1 i ne) m
      ]

      gathers_same : (s : List Batch) (ph : Phase) → HasGathered L w s ph → HasGathered L w1 s ph
      gathers_same s Idle h = tt
      gathers_same s (Looks m i b) h = λ e since noted less low. elim (h e since noted less low) [ inl has ↦ inl has | inr by ↦ inr (by1 e (length s) by) ]
      gathers_same s (Runs m) h = tt

      gathers_mine : HasGathered L w1 here.seen (Looks mine (q + 1) v)
      gathers_mine e since noted less low = elim (gathers_now facts e since noted less low) [ inl has ↦ inl has | inr by ↦ inr (by1 e k0 by) ]

      pub gather_facts : Facts L w1
      gather_facts = record {
        since_low = facts.since_low;
        stood = λ e since k noted h. facts.stood e since k noted (stands1 e k h);
        answered = λ e k r noted. reply1 e k r (facts.answered e k r noted);
        ended = λ e noted k room. facts.ended e noted k room;
        ordered = facts.ordered;
        done = λ e c. elim (facts.done e c) [
          | inl m ↦ inl (mine_kept e.process e m)
          | inr rest ↦ inr (subst (λ (z : List Batch). IsSeen z e ⊎ (L.capacity ≤ length z)) (sym (seen1 e.process)) rest)
        ];
        gathers = λ i. elim (cases_eq i p) [
          | inl f ↦ rw (f, put_same w.caller p looks) gathers_mine
          | inr ne ↦ subst (λ (z : Caller). HasGathered L w1 z.seen z.phase) (sym (put_other w.caller p looks i ne)) (gathers_same (w.caller i).seen (w.caller i).phase (facts.gathers i))
        ];
        helps = λ e since noted low k i u less room h. elim (facts.helps e since noted low k i u less room h) [ inl has ↦ inl has | inr by ↦ inr (by1 e k by) ];
        earlier = λ e since noted f c whose less. (let g = facts.earlier e since noted f c whose less in (g.0, g.1, stands1_back f g.0 g.2));
        dense = λ i c less. facts.dense i c (rw (calls_put looks refl i) at less);
      }

  -- after a look at the last process, the process has begun in the round of its slot
  module _ (last : (q + 1 == L.processes) ≡ true) where
    abbrev runs : Caller
    runs = record here { phase = Runs mine }

    abbrev r2 : R
    r2 = L.consensus.begin p v (w.round k0)

    abbrev w2 : World R
    w2 = record w { round = put w.round k0 r2; caller = put w.caller p runs }

    pub not_begun : L.consensus.input (w.round k0) p ≡ None
    not_begun = go (L.consensus.input (w.round k0) p) refl
      where
        go : (o : Option Batch) → L.consensus.input (w.round k0) p ≡ o → o ≡ None
        go None h = refl
        go (Some x) h = absurd (elim (holds.entered k0 p x h) [ inl less ↦ (let l = less in omega arith) | inr runs ↦ (let r : IsRuns (Looks mine q batch) = rw is at runs.1 in elim r [ ]) ])

    fixed2 : (k : ℕ) → L.consensus.fixed (w2.round k) ≡ L.consensus.fixed (w.round k)
    fixed2 k = elim (cases_eq k k0) [
      | inl e ↦ rw (e, put_same w.round k0 r2) (agrees.quiet (w.round k0) p v)
      | inr ne ↦ ap L.consensus.fixed (put_other w.round k0 r2 k ne)
    ]

    seen2 : (i : ℕ) → (w2.caller i).seen ≡ (w.caller i).seen
    seen2 i = seen_put runs refl i

    phase2 : (i : ℕ) → i ≢ p → (w2.caller i).phase ≡ (w.caller i).phase
    phase2 i ne = ap (λ (s : Caller). s.phase) (put_other w.caller p runs i ne)

    runs2 : IsRuns (w2.caller p).phase
    runs2 = rw (put_same w.caller p runs) tt

    other2 : (j : ℕ) (u : Entry) → IsOther L (w.round j) u → IsOther L (w2.round j) u
    other2 j u o = record { batch = o.batch; fixed = fixed2 j ∙ o.fixed; other = o.other }

    begun2 : (k : ℕ) (u : Batch) → IsBegun L w k u → IsBegun L w2 k u
    begun2 k u b = record {
      shaped = b.shaped;
      called = b.called;
      other = λ e has j less. other2 j e (b.other e has j less);
      turn = λ j less. (let x = b.turn j less in (x.0, fixed2 j ∙ x.1));
    }

    begun_now : IsBegun L w2 k0 v
    begun_now =
        let g = gathered_now (w.announced q) refl in
        record {
          shaped = g.shaped;
          called = g.called;
          other = λ e has j less. (let x = there_is here.seen j less in record { batch = x.0; fixed = fixed2 j ∙ holds.seen p j x.0 x.1; other = λ h. g.unseen e has j x.0 x.1 h });
          turn = λ j less. (let x = there_is here.seen j less in (x.0, fixed2 j ∙ holds.seen p j x.0 x.1));
        }

    -- an input of a round is an old one, or the new one of p
    input_cases : (k i : ℕ) (u : Batch) → L.consensus.input (w2.round k) i ≡ Some u → (L.consensus.input (w.round k) i ≡ Some u) ⊎ ((k ≡ k0) × (i ≡ p) × (v ≡ u))
    input_cases k i u h = elim (cases_eq k k0) [
      | inl e ↦ (let h' : L.consensus.input r2 i ≡ Some u = ap (λ z. L.consensus.input z i) (sym (put_same w.round k0 r2)) ∙ ap (λ z. L.consensus.input (w2.round z) i) (sym e) ∙ h in
          elim (cases_eq i p) [
            | inl f ↦ (let g : L.consensus.input r2 p ≡ Some u = ap (L.consensus.input r2) (sym f) ∙ h' in let m = agrees.input_mine (w.round k0) p v lt (holds.good k0) in
                inr (e, f, (let same : v ≡ u = cc (g, m) in same)))
            | inr ne ↦ inl (ap (λ z. L.consensus.input (w.round z) i) e ∙ sym (agrees.input_other (w.round k0) p i v ne) ∙ h')
          ])
      | inr ne ↦ inl (ap (λ z. L.consensus.input z i) (sym (put_other w.round k0 r2 k ne)) ∙ h)
    ]

    input_kept : (k i : ℕ) → i ≢ p → L.consensus.input (w2.round k) i ≡ L.consensus.input (w.round k) i
    input_kept k i ne = elim (cases_eq k k0) [
      | inl e ↦ rw (e, put_same w.round k0 r2) (agrees.input_other (w.round k0) p i v ne)
      | inr away ↦ ap (λ z. L.consensus.input z i) (put_other w.round k0 r2 k away)
    ]

    decided_kept : (k i : ℕ) → i ≢ p → L.consensus.decided (w2.round k) i ≡ L.consensus.decided (w.round k) i
    decided_kept k i ne = elim (cases_eq k k0) [
      | inl e ↦ rw (e, put_same w.round k0 r2) (agrees.decided_begin (w.round k0) p i v ne)
      | inr away ↦ ap (λ z. L.consensus.decided z i) (put_other w.round k0 r2 k away)
    ]

    running_other : (i : ℕ) → i ≢ p → (u : Batch) × (L.consensus.input (w.round (length (w.caller i).seen)) i ≡ Some u) × (L.consensus.decided (w.round (length (w.caller i).seen)) i ≡ None)
        → (u : Batch) × (L.consensus.input (w2.round (length (w.caller i).seen)) i ≡ Some u) × (L.consensus.decided (w2.round (length (w.caller i).seen)) i ≡ None)
    running_other i ne h = (h.0, input_kept (length (w.caller i).seen) i ne ∙ h.1, decided_kept (length (w.caller i).seen) i ne ∙ h.2)

    running_mine : (u : Batch) × (L.consensus.input (w2.round k0) p ≡ Some u) × (L.consensus.decided (w2.round k0) p ≡ None)
    running_mine = (
      v,
      ap (λ z. L.consensus.input z p) (put_same w.round k0 r2) ∙ agrees.input_mine (w.round k0) p v lt (holds.good k0),
      ap (λ z. L.consensus.decided z p) (put_same w.round k0 r2)
          ∙ agrees.undecided_begin (w.round k0) p v lt (holds.good k0),
    )

    entered_same : (k i : ℕ) → (k < length (w.caller i).seen) ⊎ ((k ≡ length (w.caller i).seen) × IsRuns (w.caller i).phase)
        → (k < length (w.caller i).seen) ⊎ ((k ≡ length (w.caller i).seen) × IsRuns (w2.caller i).phase)
    entered_same k i (inl less) = inl less
    entered_same k i (inr runs) = inr (runs.0, elim (cases_eq i p) [ inl e ↦ subst (λ z. IsRuns (w2.caller z).phase) (sym e) runs2 | inr ne ↦ subst IsRuns (sym (phase2 i ne)) runs.1 ])

    pub keeps_begin : Holds L Good w2
    keeps_begin = record {
      good = λ k. elim (cases_eq k k0) [
        | inl e ↦ rw (e, put_same w.round k0 r2) (agrees.good_begin (w.round k0) p v lt (holds.good k0) not_begun)
        | inr ne ↦ rw (put_other w.round k0 r2 k ne) (holds.good k)
      ];
      seen = λ i k x h. fixed2 k ∙ holds.seen i k x (subst (λ (z : List Batch). slice_get z k ≡ Some x) (seen2 i) h);
      entered = λ k i u h. subst (λ (z : List Batch). (k < length z) ⊎ ((k ≡ length z) × IsRuns (w2.caller i).phase)) (sym (seen2 i)) (elim (input_cases k i u h) [
        | inl was ↦ entered_same k i (holds.entered k i u was)
        | inr new ↦ inr (new.0 ∙ ap (λ z. length (w.caller z).seen) (sym new.1), subst (λ z. IsRuns (w2.caller z).phase) (sym new.1) runs2)
      ]);
      running = λ i runs. subst (λ (z : List Batch). (u : Batch) × (L.consensus.input (w2.round (length z)) i ≡ Some u) × (L.consensus.decided (w2.round (length z)) i ≡ None))
          (sym (seen2 i)) (elim (cases_eq i p) [
            | inl e ↦ subst (λ z. (u : Batch) × (L.consensus.input (w2.round (length (w.caller z).seen)) z ≡ Some u)
                × (L.consensus.decided (w2.round (length (w.caller z).seen)) z ≡ None)) (sym e) running_mine
            | inr ne ↦ running_other i ne (holds.running i (subst IsRuns (phase2 i ne) runs))
          ]);
      begun = λ k i u h. elim (input_cases k i u h) [
        | inl was ↦ begun2 k u (holds.begun k i u was)
        | inr new ↦ subst (λ z. IsBegun L w2 k z) new.2 (subst (λ z. IsBegun L w2 z v) (sym new.0) begun_now)
      ];
      phases = λ i. elim (cases_eq i p) [
        | inl e ↦ rw (e, put_same w.caller p runs) (pending_later (put w.round k0 r2) runs refl refl p mine looking.pending)
        | inr ne ↦ rw (phase2 i ne) (holds_later (put w.round k0 r2) runs refl refl i (w.caller i).phase (holds.phases i))
      ];
      announced = holds.announced;
      numbered = λ e c. rw (calls_put runs refl e.process) (holds.numbered e c);
    }

    module _ (facts : Facts L w) where
      stands2 : (e : Entry) (k : ℕ) → Stands L w2 e k → Stands L w e k
      stands2 e k s = record { batch = s.batch; fixed = sym (fixed2 k) ∙ s.fixed; has = s.has }

      abbrev stands2_back : (e : Entry) (k : ℕ) → Stands L w e k → Stands L w2 e k
      stands2_back e k s = record { batch = s.batch; fixed = fixed2 k ∙ s.fixed; has = s.has }

      by2 : (e : Entry) (k : ℕ) → StandsBy L w e k → StandsBy L w2 e k
      by2 e k s = record { slot = s.slot; low = s.low; stands = stands2_back e s.slot s.stands }

      reply2 : (e : Entry) (k r : ℕ) → IsReply L w e k r → IsReply L w2 e k r
      reply2 e k r a = record { stands = stands2_back e k a.stands; within = a.within; before = a.before; many = a.many; are = λ j x h. fixed2 j ∙ a.are j x h; reply = a.reply }

      mine_kept2 : (i : ℕ) (e : Entry) → IsMine (w.caller i).phase e → IsMine (w2.caller i).phase e
      mine_kept2 i e m = elim (cases_eq i p) [
        | inl f ↦ rw (f, put_same w.caller p runs) (let m' : IsMine (Looks mine q batch) e = rw (f, is) at m in m')
        | inr ne ↦ rw (phase2 i ne) m
      ]

      gathers_same2 : (s : List Batch) (ph : Phase) → HasGathered L w s ph → HasGathered L w2 s ph
      gathers_same2 s Idle h = tt
      gathers_same2 s (Looks m i b) h = λ e since noted less low. elim (h e since noted less low) [ inl has ↦ inl has | inr by ↦ inr (by2 e (length s) by) ]
      gathers_same2 s (Runs m) h = tt

      begins_with : (e : Entry) (since : ℕ) → IsNoted (Called e since) w.history → e.process < L.processes → since < k0 → HoldsEntry v e ⊎ StandsBy L w2 e k0
      begins_with e since noted low less =
          let all : q + 1 ≡ L.processes = grind (arith, nat_tests) in
          elim (gathers_now facts e since noted less (omega (arith, all, low))) [ inl has ↦ inl has | inr by ↦ inr (by2 e k0 by) ]

      pub begin_facts : Facts L w2
      begin_facts = record {
        since_low = λ e since noted k room h. facts.since_low e since noted k room (sym (fixed2 k) ∙ h);
        stood = λ e since k noted h. facts.stood e since k noted (stands2 e k h);
        answered = λ e k r noted. reply2 e k r (facts.answered e k r noted);
        ended = λ e noted k room. other2 k e (facts.ended e noted k room);
        ordered = facts.ordered;
        done = λ e c. elim (facts.done e c) [
          | inl m ↦ inl (mine_kept2 e.process e m)
          | inr rest ↦ inr (subst (λ (z : List Batch). IsSeen z e ⊎ (L.capacity ≤ length z)) (sym (seen2 e.process)) rest)
        ];
        gathers = λ i. elim (cases_eq i p) [
          | inl f ↦ rw (f, put_same w.caller p runs) tt
          | inr ne ↦ subst (λ (z : Caller). HasGathered L w2 z.seen z.phase) (sym (put_other w.caller p runs i ne)) (gathers_same2 (w.caller i).seen (w.caller i).phase (facts.gathers i))
        ];
        helps = λ e since noted low k i u less room h. elim (input_cases k i u h) [
          | inl was ↦ elim (facts.helps e since noted low k i u less room was) [ inl has ↦ inl has | inr by ↦ inr (by2 e k by) ]
          | inr new ↦ subst (λ z. HoldsEntry z e ⊎ StandsBy L w2 e k) new.2
              (subst (λ z. HoldsEntry v e ⊎ StandsBy L w2 e z) (sym new.0) (begins_with e since noted low (subst (λ z. since < z) new.0 less)))
        ];
        earlier = λ e since noted f c whose less. (let g = facts.earlier e since noted f c whose less in (g.0, g.1, stands2_back f g.0 g.2));
        dense = λ i c less. facts.dense i c (rw (calls_put runs refl i) at less);
      }

  pub keeps_look : Holds L Good (after_step L w p here (Looks mine q batch))
  keeps_look = go (q + 1 == L.processes) refl
    where
      go : (b : Bool) → (q + 1 == L.processes) ≡ b → Holds L Good (after_gathering L w p here mine q v b)
      go false e = keeps_gather e
      go true e = keeps_begin e

  pub look_facts : Facts L w → Facts L (after_step L w p here (Looks mine q batch))
  look_facts facts = go (q + 1 == L.processes) refl
    where
      go : (b : Bool) → (q + 1 == L.processes) ≡ b → Facts L (after_gathering L w p here mine q v b)
      go false e = gather_facts e facts
      go true e = begin_facts e facts
