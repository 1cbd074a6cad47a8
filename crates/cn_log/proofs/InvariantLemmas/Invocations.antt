-- A call keeps the invariant, and so does every list of events.
use Rattle.std.proofs.Common.{ℕ, zero, suc, ◌≡◌, ◌≢◌, ◌⊎◌, inl, inr, ◌+◌, ◌<◌, ◌≤◌, List, [], ◌∷◌, length, slice_get, Option, Some, None, refl, sym, ap, ◌∙◌, subst, arith, eq-or-lt_of_le}
use Rattle.std.proofs.lemmas.Bool.{cases_eq}
use Rattle.std.proofs.lemmas.Option.{slice_get_within}
use Rattle.cn_log.specs.declared.batch.Batch.{Batch}
use Rattle.cn_log.specs.declared.entry.Entry.{Entry}
use Rattle.cn_log.specs.Batches.{HoldsEntry, no_entries}
use Rattle.cn_log.specs.Log.{Setting, World, Caller, Note, Called, Replied, FoundFull, batches_of, fixed_from, first_look, after_invoke, after_step, after_event, after_events, MayCome, MayAllCome}
use Rattle.cn_log.specs.declared.caller_state.Phase.{Phase}
use Rattle.cn_log.specs.declared.caller_state.Phase.TheVariants.{Idle, Looks, Runs}
use Rattle.cn_log.specs.declared.event.Event.{Event}
use Rattle.cn_log.specs.declared.event.Event.TheVariants.{Invoke, Step}
use Rattle.cn_log.specs.Agreement.{RoundsAgree}
use Rattle.cn_log.proofs.ListLemmas.Places.{put_same, put_other, there_is}
use Rattle.cn_log.proofs.InvariantLemmas.Invariant.{none_gathered, IsNoted, IsCalled, IsRuns, IsPending, IsLooking, PhaseHolds, Holds, HasGathered, fixed_begun, in_order, Facts, IsMine, IsSeen, Stands, StandsBy, IsReply}
use Rattle.cn_log.proofs.InvariantLemmas.Looks.{keeps_look, look_facts}
use Rattle.cn_log.proofs.InvariantLemmas.RoundSteps.{keeps_run, run_facts, called_more}

-- the slots before the first open one
module _ {R : Type 0} (L : Setting R) (round : ℕ → R) where
  open_below : (slots k j : ℕ) → k ≤ j → j < k + length (fixed_from L slots k round) → (y : Batch) × (L.consensus.fixed (round j) ≡ Some y)
  open_below zero k j le less = absurd (omega arith)
  open_below (suc slots) k j le less = go (L.consensus.fixed (round k)) refl (open_below slots (suc k) j) (eq-or-lt_of_le le)
    where
      go : (o : Option Batch) → L.consensus.fixed (round k) ≡ o
          → (suc k ≤ j → j < suc k + length (fixed_from L slots (suc k) round) → (y : Batch) × (L.consensus.fixed (round j) ≡ Some y)) → (k ≡ j) ⊎ (k < j)
          → (y : Batch) × (L.consensus.fixed (round j) ≡ Some y)
      go None e rest c = absurd (let l : j < k + 0 = rw e at less in omega arith)
      go (Some y) e rest (inl same) = (y, rw same at e)
      go (Some y) e rest (inr more) = rest more (let l : j < k + suc (length (fixed_from L slots (suc k) round)) = rw e at less in omega arith)

  pub open_at : (slots k : ℕ) → (length (fixed_from L slots k round) ≡ slots) ⊎ (L.consensus.fixed (round (k + length (fixed_from L slots k round))) ≡ None)
  open_at zero k = inl refl
  open_at (suc slots) k = go (L.consensus.fixed (round k)) refl (open_at slots (suc k))
    where
      go : (o : Option Batch) → L.consensus.fixed (round k) ≡ o
          → (length (fixed_from L slots (suc k) round) ≡ slots) ⊎ (L.consensus.fixed (round (suc k + length (fixed_from L slots (suc k) round))) ≡ None)
          → (length (fixed_from L (suc slots) k round) ≡ suc slots) ⊎ (L.consensus.fixed (round (k + length (fixed_from L (suc slots) k round))) ≡ None)
      go None e rest = inr (rw e (let z : k + 0 ≡ k = omega arith in rw z e))
      go (Some y) e (inl end) = inl (rw e (ap suc end))
      go (Some y) e (inr none) = inr (rw e (let z : k + suc (length (fixed_from L slots (suc k) round)) ≡ suc k + length (fixed_from L slots (suc k) round) = omega arith in rw z none))

module _ {R : Type 0} (L : Setting R) (Good : R → Type 0) (agrees : RoundsAgree L Good) (w : World R) (holds : Holds L Good w)
    (p operation : ℕ) (lt : p < L.processes) (is : (w.caller p).phase ≡ Idle) (room : length (w.caller p).seen < L.capacity) where
  abbrev here : Caller
  here = w.caller p

  abbrev e : Entry
  e = record { process = p; operation = record { 0 = operation }; call = here.calls }

  abbrev caller' : Caller
  caller' = record { seen = here.seen; calls = here.calls + 1; phase = first_look e }

  abbrev w' : World R
  w' = after_invoke L w p operation here

  called_kept : (f : Entry) → IsCalled f w.history → IsCalled f w'.history
  called_kept f c = called_more f (Called e (length (batches_of L w))) w.history c

  called_new : IsCalled e w'.history
  called_new = record { since = length (batches_of L w); noted = record { place = zero; there = refl } }

  called_cases : (f : Entry) → IsCalled f w'.history → (e ≡ f) ⊎ IsCalled f w.history
  called_cases f c = at c.noted.place c.noted.there
    where
      at : (k : ℕ) → slice_get w'.history k ≡ Some (Called f c.since) → (e ≡ f) ⊎ IsCalled f w.history
      at zero h = inl cc
      at (suc k) h = inr (record { since = c.since; noted = record { place = k; there = h } })

  seen_same : (q : ℕ) → (w'.caller q).seen ≡ (w.caller q).seen
  seen_same q = elim (cases_eq q p) [
    | inl f ↦ rw (f, put_same w.caller p caller') refl
    | inr ne ↦ ap (λ (s : Caller). s.seen) (put_other w.caller p caller' q ne)
  ]

  pending_other : (q : ℕ) (f : Entry) → q ≢ p → IsPending L w q f → IsPending L w' q f
  pending_other q f ne h =
      let s = put_other w.caller p caller' q ne in
      record {
        unseen = λ k b g. h.unseen k b (rw s at g);
        called = called_kept f h.called;
        announced = put_other w.announced p (Some e) q ne ∙ h.announced;
        process = h.process;
        call = rw s h.call;
        room = rw s h.room;
      }

  phase_other : (q : ℕ) (ph : Phase) → q ≢ p → PhaseHolds L w q ph → PhaseHolds L w' q ph
  phase_other q Idle ne h = tt
  phase_other q (Looks f i b) ne h =
      let s = put_other w.caller p caller' q ne in
      let g = h.gathered in
      record {
        pending = pending_other q f ne h.pending;
        next = h.next;
        gathered = rw s (record { places = g.places; shaped = g.shaped; called = λ z has. called_kept z (g.called z has); unseen = g.unseen });
      }
  phase_other q (Runs f) ne h = pending_other q f ne h

  -- the new entry was not called before
  new_entry : IsCalled e w.history → ⊥
  new_entry c = let l = holds.numbered e c in omega arith

  pending_new : IsPending L w' p e
  pending_new =
      let s = put_same w.caller p caller' in
      record {
        unseen = λ k b g has. new_entry ((fixed_begun L Good agrees w holds k b (holds.seen p k b (rw s at g))).called e has);
        called = called_new;
        announced = put_same w.announced p (Some e);
        process = refl;
        call = rw s refl;
        room = rw s room;
      }

  looking_new : IsLooking L w' p e 0 no_entries
  looking_new = record {
    pending = pending_new;
    next = omega arith;
    gathered = none_gathered _ _;
  }

  pub keeps_invoke : Holds L Good w'
  keeps_invoke = record {
    good = holds.good;
    seen = λ q k x h. holds.seen q k x (rw seen_same at h);
    entered = λ k q u h. elim (cases_eq q p) [
      | inl f ↦ inl (rw (f, put_same w.caller p caller') (entered_mine k (holds.entered k p u (rw f at h))))
      | inr ne ↦ rw (put_other w.caller p caller' q ne) (holds.entered k q u h)
    ];
    running = λ q runs. elim (cases_eq q p) [
      | inl f ↦ absurd (let r : IsRuns (first_look e) = rw (f, put_same w.caller p caller') at runs in r)
      | inr ne ↦ (let r = holds.running q (rw (put_other w.caller p caller' q ne) at runs) in (r.0, rw (put_other w.caller p caller' q ne) r.1, rw (put_other w.caller p caller' q ne) r.2))
    ];
    begun = λ k q u h. (let b = holds.begun k q u h in record { shaped = b.shaped; called = λ f has. called_kept f (b.called f has); other = b.other; turn = b.turn });
    phases = λ q. elim (cases_eq q p) [
      | inl f ↦ rw (f, put_same w.caller p caller') looking_new
      | inr ne ↦ rw (put_other w.caller p caller' q ne) (phase_other q (w.caller q).phase ne (holds.phases q))
    ];
    announced = λ q a h. elim (cases_eq q p) [
      | inl f ↦ (let g : Some e ≡ Some a = rw (f, put_same w.announced p (Some e)) at h in let same : e ≡ a = cc in (rw (← same) called_new, ap (λ (z : Entry). z.process) (sym same) ∙ sym f))
      | inr ne ↦ (let c = holds.announced q a (rw (put_other w.announced p (Some e) q ne) at h) in (called_kept a c.0, c.1))
    ];
    numbered = λ f c. elim (called_cases f c) [
      | inl new ↦ rw (← new, put_same w.caller p caller') (omega arith)
      | inr was ↦ elim (cases_eq f.process p) [
        | inl g ↦ rw (g, put_same w.caller p caller') (let l : f.call < (w.caller p).calls = rw g at (holds.numbered f was) in omega arith)
        | inr ne ↦ rw (put_other w.caller p caller' f.process ne) (holds.numbered f was)
      ]
    ];
  }
    where
      entered_mine : (k : ℕ) → (k < length (w.caller p).seen) ⊎ ((k ≡ length (w.caller p).seen) × IsRuns (w.caller p).phase) → k < length (w.caller p).seen
      entered_mine k (inl less) = less
      entered_mine k (inr runs) = let r : IsRuns Idle = rw is at runs.1 in elim r [ ]

  module _ (facts : Facts L w) where
    abbrev top : ℕ
    top = length (batches_of L w)

    top_open : top < L.capacity → L.consensus.fixed (w.round top) ≡ None
    top_open less = elim (open_at L w.round L.capacity 0) [ inl end ↦ absurd (let e = end in omega arith) | inr none ↦ (let z : 0 + top ≡ top = omega arith in rw z at none) ]

    -- a slot that is at or above the first open one, with all earlier slots fixed, is at the end
    not_above : (k : ℕ) → k < L.capacity → top < k → ((j : ℕ) → j < k → (y : Batch) × (L.consensus.fixed (w.round j) ≡ Some y)) → ⊥
    not_above k room above all = let none = top_open (omega arith) in let some = (all top above).1 in cc (none, some)

    top_le : (k : ℕ) → L.consensus.fixed (w.round k) ≡ None → (k < top) ⊎ (top ≤ k) → top ≤ k
    top_le k none (inl less) = let some = (open_below L w.round L.capacity 0 k (omega arith) (omega arith)).1 in absurd (cc (none, some))
    top_le k none (inr le) = le

    cases_le : (a b : ℕ) → (a < b) ⊎ (b ≤ a)
    cases_le a b = grind arith

    fixed_below : (k : ℕ) (y : Batch) → k < L.capacity → L.consensus.fixed (w.round k) ≡ Some y → (k < top) ⊎ (top ≤ k) → k < top
    fixed_below k y room h (inl less) = less
    fixed_below k y room h (inr le) = absurd (go (eq-or-lt_of_le le))
      where
        go : (top ≡ k) ⊎ (top < k) → ⊥
        go (inl same) = let none = rw same at (top_open (omega arith)) in cc (none, h)
        go (inr less) = not_above k room less (λ j l. in_order L Good agrees w holds j k y l h)

    noted_cases : (f : Entry) (since : ℕ) → IsNoted (Called f since) w'.history → ((e ≡ f) × (top ≡ since)) ⊎ IsNoted (Called f since) w.history
    noted_cases f since c = at c.place c.there
      where
        at : (k : ℕ) → slice_get w'.history k ≡ Some (Called f since) → ((e ≡ f) × (top ≡ since)) ⊎ IsNoted (Called f since) w.history
        at zero h = inl (cc, cc)
        at (suc k) h = inr (record { place = k; there = h })

    abbrev stands_now : (f : Entry) (k : ℕ) → Stands L w f k → Stands L w' f k
    stands_now f k s = record { batch = s.batch; fixed = s.fixed; has = s.has }

    stands_was : (f : Entry) (k : ℕ) → Stands L w' f k → Stands L w f k
    stands_was f k s = record { batch = s.batch; fixed = s.fixed; has = s.has }

    by_now : (f : Entry) (k : ℕ) → StandsBy L w f k → StandsBy L w' f k
    by_now f k s = record { slot = s.slot; low = s.low; stands = stands_now f s.slot s.stands }

    -- a process has replayed at most as many slots as are fixed
    seen_low : (i : ℕ) → length (w.caller i).seen ≤ L.capacity → length (w.caller i).seen ≤ top
    seen_low i few = go (cases_le top (length (w.caller i).seen))
      where
        go : (top < length (w.caller i).seen) ⊎ (length (w.caller i).seen ≤ top) → length (w.caller i).seen ≤ top
        go (inl more) = let none = top_open (omega (arith, more, few)) in let y = there_is (w.caller i).seen top more in let some = holds.seen i top y.0 y.1 in absurd (cc (none, some))
        go (inr le) = le

    reply_same : (f : Entry) (k r : ℕ) → IsReply L w f k r → IsReply L w' f k r
    reply_same f k r a = record { stands = stands_now f k a.stands; within = a.within; before = a.before; many = a.many; are = a.are; reply = a.reply }

    done_at : (f : Entry) (q : ℕ) → IsMine (w.caller q).phase f ⊎ (IsSeen (w.caller q).seen f ⊎ (L.capacity ≤ length (w.caller q).seen))
        → IsMine (w'.caller q).phase f ⊎ (IsSeen (w'.caller q).seen f ⊎ (L.capacity ≤ length (w'.caller q).seen))
    done_at f q (inl m) = elim (cases_eq q p) [
      | inl g ↦ absurd (let m' : IsMine Idle f = rw (g, is) at m in m')
      | inr ne ↦ inl (rw (put_other w.caller p caller' q ne) m)
    ]
    done_at f q (inr rest) = inr (rw (seen_same q) rest)

    pub invoke_facts : Facts L w'
    invoke_facts = record {
      since_low = λ f since noted k room h. elim (noted_cases f since noted) [
        | inl new ↦ rw (← new.1) (top_le k h (cases_le k top))
        | inr was ↦ facts.since_low f since was k room h
      ];
      stood = λ f since k noted h. elim (noted_cases f since noted) [
        | inl new ↦ absurd (new_entry ((fixed_begun L Good agrees w holds k h.batch h.fixed).called e (subst (λ (z : Entry). HoldsEntry h.batch z) (sym new.0) h.has)))
        | inr was ↦ facts.stood f since k was (stands_was f k h)
      ];
      answered = λ f k r noted. reply_same f k r (facts.answered f k r (answered_before (Replied f k r) (λ since h. cc) noted));
      ended = λ f noted k room. facts.ended f (answered_before (FoundFull f) (λ since h. cc) noted) k room;
      ordered = (λ f k r noted. (let a = facts.answered f k r noted in fixed_below k a.stands.batch a.within a.stands.fixed (cases_le k top)), facts.ordered);
      done = λ f c. elim (called_cases f c) [
        | inl new ↦ inl (mine_new f new)
        | inr was ↦ done_at f f.process (facts.done f was)
      ];
      gathers = λ i. elim (cases_eq i p) [
        | inl f ↦ rw (f, put_same w.caller p caller') (λ g since noted less low. absurd (omega (arith, low)))
        | inr ne ↦ subst (λ (z : Caller). HasGathered L w' z.seen z.phase) (sym (put_other w.caller p caller' i ne)) (gathers_other i (w.caller i).phase (holds.phases i) (facts.gathers i))
      ];
      helps = λ f since noted low k q v less room h. elim (noted_cases f since noted) [
        | inl new ↦ absurd (not_above k room (rw (← new.1) at less) (λ j l. (holds.begun k q v h).turn j l))
        | inr was ↦ elim (facts.helps f since was low k q v less room h) [ inl has ↦ inl has | inr by ↦ inr (by_now f k by) ]
      ];
      earlier = λ f since noted g c q less. elim (noted_cases f since noted) [
        | inl new ↦ (let r = earlier_new f g new.0 q less (called_cases g c) in (r.0, subst (λ z. r.0 < z) new.1 r.1, stands_now g r.0 r.2))
        | inr was ↦ elim (called_cases g c) [
          | inl mine ↦ absurd (later f g mine q less (record { since = since; noted = was }))
          | inr old ↦ (let r = facts.earlier f since was g old q less in (r.0, r.1, stands_now g r.0 r.2))
        ]
      ];
      dense = λ q c less. elim (cases_eq q p) [
        | inl g ↦ rw g (dense_mine c (rw (g, put_same w.caller p caller') at less))
        | inr ne ↦ (let d = facts.dense q c (rw (put_other w.caller p caller' q ne) at less) in (d.0, called_kept d.0 d.1, d.2, d.3))
      ];
    }
      where
        gathers_other : (i : ℕ) (ph : Phase) → PhaseHolds L w i ph → HasGathered L w (w.caller i).seen ph → HasGathered L w' (w.caller i).seen ph
        gathers_other i Idle at h = tt
        gathers_other i (Runs m) at h = tt
        gathers_other i (Looks m j b) at h = λ f since noted less low. elim (noted_cases f since noted) [
          | inl new ↦ absurd (let s = at.pending.room in let l = seen_low i (omega (arith, s)) in let t = new.1 in omega (arith, l, t, less))
          | inr was ↦ elim (h f since was less low) [ inl has ↦ inl has | inr by ↦ inr (by_now f (length (w.caller i).seen) by) ]
        ]

        dense_at : (c : ℕ) → (c < here.calls) ⊎ (c ≡ here.calls) → (f : Entry) × IsCalled f w'.history × (f.process ≡ p) × (f.call ≡ c)
        dense_at c (inl less) = let d = facts.dense p c less in (d.0, called_kept d.0 d.1, d.2, d.3)
        dense_at c (inr same) = (e, called_new, refl, sym same)

        dense_mine : (c : ℕ) → c < here.calls + 1 → (f : Entry) × IsCalled f w'.history × (f.process ≡ p) × (f.call ≡ c)
        dense_mine c less = dense_at c (grind arith)

        -- a call of p is done when p makes another
        stands_done : (g : Entry) (q : ℕ) → q ≡ p → IsMine (w.caller q).phase g ⊎ (IsSeen (w.caller q).seen g ⊎ (L.capacity ≤ length (w.caller q).seen)) → (j : ℕ) × (j < top) × Stands L w g j
        stands_done g q at (inl m) = absurd (let m' : IsMine Idle g = rw (at, is) at m in m')
        stands_done g q at (inr (inl s)) =
            let s' : slice_get (w.caller p).seen s.slot ≡ Some s.batch = rw at at s.there in
            let inside = slice_get_within (w.caller p).seen s.slot s.batch s' in
            let stands = holds.seen p s.slot s.batch s' in
            (s.slot, fixed_below s.slot s.batch (omega arith) stands (cases_le s.slot top), record { batch = s.batch; fixed = stands; has = s.has })
        stands_done g q at (inr (inr full)) = absurd (let f : L.capacity ≤ length (w.caller p).seen = rw at at full in omega arith)

        earlier_new : (f g : Entry) → e ≡ f → g.process ≡ f.process → g.call < f.call → (e ≡ g) ⊎ IsCalled g w.history → (j : ℕ) × (j < top) × Stands L w g j
        earlier_new f g mine q less (inl same) = absurd (let a : f.call ≡ g.call = ap (λ (z : Entry). z.call) (sym mine ∙ same) in omega arith)
        earlier_new f g mine q less (inr was) = stands_done g g.process (q ∙ ap (λ (z : Entry). z.process) (sym mine)) (facts.done g was)

        later : (f g : Entry) → e ≡ g → g.process ≡ f.process → g.call < f.call → IsCalled f w.history → ⊥
        later f g mine q less c =
            let a : here.calls ≡ g.call = ap (λ (z : Entry). z.call) mine in
            let b : p ≡ f.process = ap (λ (z : Entry). z.process) mine ∙ q in
            let d : f.call < (w.caller f.process).calls = holds.numbered f c in
            let d' : f.call < (w.caller p).calls = later_at f.process b f.call d in omega arith
          where
            later_at : (q : ℕ) → p ≡ q → (c : ℕ) → c < (w.caller q).calls → c < (w.caller p).calls
            later_at q b c d = rw (← b) at d

        answered_before : (note : Note) → ((since : ℕ) → Called e since ≢ note) → IsNoted note w'.history → IsNoted note w.history
        answered_before note ne c = at c.place c.there
          where
            at : (k : ℕ) → slice_get w'.history k ≡ Some note → IsNoted note w.history
            at zero h = absurd (ne top cc)
            at (suc k) h = record { place = k; there = h }

        mine_new : (f : Entry) → e ≡ f → IsMine (w'.caller f.process).phase f
        mine_new f same = rw (← same) (rw (put_same w.caller p caller') refl)

module _ {R : Type 0} (L : Setting R) (Good : R → Type 0) (agrees : RoundsAgree L Good) where
  pub keeps_event : (w : World R) → Holds L Good w → (event : Event) → MayCome L w event → Holds L Good (after_event L w event)
  keeps_event w holds (Invoke p operation) may = keeps_invoke L Good agrees w holds p operation may.process may.idle may.not_at_end
  keeps_event w holds (Step p) may = go (w.caller p).phase refl
    where
      go : (ph : Phase) → (w.caller p).phase ≡ ph → Holds L Good (after_step L w p (w.caller p) ph)
      go Idle e = holds
      go (Looks mine q batch) e = keeps_look L Good agrees w holds p may.process mine q batch e
      go (Runs mine) e = keeps_run L Good agrees w holds p may.process mine e

  pub facts_event : (w : World R) → Holds L Good w → Facts L w → (event : Event) → MayCome L w event → Facts L (after_event L w event)
  facts_event w holds facts (Invoke p operation) may = invoke_facts L Good agrees w holds p operation may.process may.idle may.not_at_end facts
  facts_event w holds facts (Step p) may = go (w.caller p).phase refl
    where
      go : (ph : Phase) → (w.caller p).phase ≡ ph → Facts L (after_step L w p (w.caller p) ph)
      go Idle e = facts
      go (Looks mine q batch) e = look_facts L Good agrees w holds p may.process mine q batch e facts
      go (Runs mine) e = run_facts L Good agrees w holds p may.process mine e facts

  pub facts_events : (events : List Event) (w : World R) → Holds L Good w → Facts L w → MayAllCome L events w → Facts L (after_events L events w)
  facts_events [] w holds facts may = facts
  facts_events (event ∷ events) w holds facts may = facts_events events (after_event L w event) (keeps_event w holds event may.0) (facts_event w holds facts event may.0) may.1

  pub keeps_events : (events : List Event) (w : World R) → Holds L Good w → MayAllCome L events w → Holds L Good (after_events L events w)
  keeps_events [] w holds may = holds
  keeps_events (event ∷ events) w holds may = keeps_events events (after_event L w event) (keeps_event w holds event may.0) may.1
