-- Consequences of the invariant: the bypass bound, and the answers are those of one sequential run.
use Rattle.std.proofs.Common.{ℕ, ◌≡◌, ◌⊎◌, inl, inr, ◌+◌, ◌<◌, ◌≤◌, [], length, Option, Some, None, refl, arith, subst}
use Rattle.cn_log.specs.declared.batch.Batch.{Batch}
use Rattle.cn_log.specs.declared.entry.Entry.{Entry}
use Rattle.cn_log.specs.Log.{Setting, World, Note, Called, Replied, FoundFull, first_world}
use Rattle.cn_log.specs.Agreement.{RoundsAgree}
use Rattle.cn_log.specs.Batches.{HoldsEntry}
use Rattle.cn_log.proofs.InvariantLemmas.Invariant.{IsNoted, IsPending, Holds, Facts, Stands, StandsBy, in_order, stands_once, fixed_begun}
use Rattle.cn_log.proofs.ListLemmas.Places.{there_is}

module _ {R : Type 0} (L : Setting R) (Good : R → Type 0) (agrees : RoundsAgree L Good) (w : World R) (holds : Holds L Good w) (facts : Facts L w) where
  -- once slot since + 1 is fixed, a call made at since stands in it or before it
  pub helped_by : (e : Entry) (since : ℕ) → IsNoted (Called e since) w.history → e.process < L.processes → (y : Batch) → since + 1 < L.capacity
      → L.consensus.fixed (w.round (since + 1)) ≡ Some y → StandsBy L w e (since + 1)
  helped_by e since noted lt y room h =
      let g = agrees.valid (w.round (since + 1)) y (holds.good (since + 1)) h in
      elim (facts.helps e since noted lt (since + 1) g.0 y (omega arith) room g.1) [
        | inl has ↦ record { slot = since + 1; low = omega arith; stands = record { batch = y; fixed = h; has = has } }
        | inr s ↦ s
      ]

  -- a call in the log stands in slot since or since + 1
  pub bypass : (e : Entry) (since k : ℕ) → IsNoted (Called e since) w.history → e.process < L.processes → k < L.capacity → Stands L w e k → (since ≤ k) × (k ≤ since + 1)
  bypass e since k noted lt room h = (facts.stood e since k noted h, go (cases_le k (since + 1)))
    where
      cases_le : (a b : ℕ) → (a ≤ b) ⊎ (b < a)
      cases_le a b = grind arith

      go : (k ≤ since + 1) ⊎ (since + 1 < k) → k ≤ since + 1
      go (inl le) = le
      go (inr more) =
          let x = in_order L Good agrees w holds (since + 1) k h.batch more h.fixed in
          let s = helped_by e since noted lt x.0 (omega arith) x.1 in
          let same : s.slot ≡ k = stands_once L Good agrees w holds s.slot k e s.stands h in
          let le = s.low in omega arith

  -- if it is in no slot, slot since + 1 is open
  pub bypass_none : (e : Entry) (since : ℕ) → IsNoted (Called e since) w.history → e.process < L.processes → ((k : ℕ) → k < L.capacity → Stands L w e k → ⊥)
      → since + 1 < L.capacity → L.consensus.fixed (w.round (since + 1)) ≡ None
  bypass_none e since noted lt none room = go (L.consensus.fixed (w.round (since + 1))) refl
    where
      go : (o : Option Batch) → L.consensus.fixed (w.round (since + 1)) ≡ o → o ≡ None
      go None h = refl
      go (Some y) h = let s = helped_by e since noted lt y room h in let l = s.low in absurd (none s.slot (omega arith) s.stands)

  -- the earlier calls of the process of an entry stand before it, and none is left out
  pub none_left_out : (e : Entry) (k c : ℕ) → Stands L w e k → c < e.call → (f : Entry) × (j : ℕ) × (f.process ≡ e.process) × (f.call ≡ c) × (j < k) × Stands L w f j
  none_left_out e k c h less =
      let called = (fixed_begun L Good agrees w holds k h.batch h.fixed).called e h.has in
      let below = holds.numbered e called in
      let f = facts.dense e.process c (omega arith) in
      let j = facts.earlier e called.since called.noted f.0 f.1 f.2 (let fc = f.3 in omega arith) in
      let low = facts.stood e called.since k called.noted h in
      (f.0, j.0, f.2, f.3, (let l = j.1 in omega arith), j.2)

  -- a process with a pending call made at since has replayed at most since + 1 slots
  pub pending_low : (p : ℕ) (mine : Entry) → p < L.processes → IsPending L w p mine → (since : ℕ) → IsNoted (Called mine since) w.history → length (w.caller p).seen ≤ since + 1
  pending_low p mine lt pend since noted = go (cases_le (length (w.caller p).seen) (since + 1))
    where
      cases_le : (a b : ℕ) → (a ≤ b) ⊎ (b < a)
      cases_le a b = grind arith

      go : (length (w.caller p).seen ≤ since + 1) ⊎ (since + 1 < length (w.caller p).seen) → length (w.caller p).seen ≤ since + 1
      go (inl le) = le
      go (inr more) =
          let g = there_is (w.caller p).seen (since + 1) more in
          let room = pend.room in
          let s = helped_by mine since noted (rw pend.process lt) g.0 (omega arith) (holds.seen p (since + 1) g.0 g.1) in
          let x = there_is (w.caller p).seen s.slot (let l = s.low in omega arith) in
          let fixed = holds.seen p s.slot x.0 x.1 in
          let there = s.stands.fixed in
          let same : s.stands.batch ≡ x.0 = cc (fixed, there) in
          absurd (pend.unseen s.slot x.0 x.1 (subst (λ (z : Batch). HoldsEntry z mine) same s.stands.has))

-- before any event
module _ {R : Type 0} (L : Setting R) (Good : R → Type 0) (agrees : RoundsAgree L Good) where
  none_noted : (note : Note) → IsNoted note [] → ⊥
  none_noted note h = let g = h.there in cc g

  pub first_holds : Holds L Good (first_world L)
  first_holds = record {
    good = λ k. agrees.good_untouched;
    seen = λ p k x h. absurd cc;
    entered = λ k q v h. absurd (let e = agrees.empty q in cc (e, h));
    running = λ q runs. absurd runs;
    begun = λ k q v h. absurd (let e = agrees.empty q in cc (e, h));
    phases = λ p. tt;
    announced = λ p a h. absurd cc;
    numbered = λ e c. absurd (none_noted (Called e c.since) c.noted);
  }

  pub first_facts : Facts L (first_world L)
  first_facts = record {
    since_low = λ e since noted k room h. absurd (none_noted (Called e since) noted);
    stood = λ e since k noted h. absurd (none_noted (Called e since) noted);
    answered = λ e k t noted. absurd (none_noted (Replied e k t) noted);
    ended = λ e noted k room. absurd (none_noted (FoundFull e) noted);
    ordered = tt;
    done = λ e c. absurd (none_noted (Called e c.since) c.noted);
    helps = λ e since noted low k q v less room h. absurd (none_noted (Called e since) noted);
    gathers = λ p. tt;
    earlier = λ e since noted f c q less. absurd (none_noted (Called e since) noted);
    dense = λ p c less. absurd (omega arith);
  }
