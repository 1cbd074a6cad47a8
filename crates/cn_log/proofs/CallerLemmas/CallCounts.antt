-- A process has replayed the first calls of each process, so their number tells which.
use Rattle.std.proofs.Common.{ℕ, zero, suc, ◌≡◌, if◌then◌else◌, Bool, true, false, ◌+◌, ◌<◌, ◌≤◌, ◌==◌, nat_lt, List, [], ◌∷◌, length, take, slice_get, Option, Some, None, refl, ap, ◌∙◌, subst, arith}
use Rattle.std.proofs.lemmas.Bool.Decides.{nat_tests}
use Rattle.cn_log.specs.declared.batch.Batch.{Batch}
use Rattle.cn_log.specs.declared.entry.Entry.{Entry}
use Rattle.cn_log.specs.declared.event.Event.{Event}
use Rattle.cn_log.specs.declared.event.Event.TheVariants.{Invoke, Step}
use Rattle.cn_log.specs.Agreement.{RoundsAgree}
use Rattle.cn_log.specs.Batches.{and_entry, entry_at, members, with_entry}
use Rattle.cn_log.specs.Callers.{call_of, calls_from, calls_by, entries_by, seen_of}
use Rattle.cn_log.specs.Fields.{batch_with_calls}
use Rattle.cn_log.specs.Linearized.{calls_of}
use Rattle.cn_log.specs.Log.{Setting, has_entry, batch_with, state_of, IsEventList}
use Rattle.cn_log.proofs.ListLemmas.EventLists.{calls_cons}
use Rattle.cn_log.proofs.InvariantLemmas.Invariant.{IsCalled, IsShaped}
use Rattle.cn_log.proofs.InvariantLemmas.Linearization.{called_event, holds_after}
use Rattle.cn_log.proofs.ListLemmas.Places.{get_low, there_is, has_not, has_yes}
use Rattle.cn_log.proofs.CallerLemmas.OwnCalls.{seen_made}
use Rattle.cn_log.proofs.ListLemmas.OwnEntries.{own_none, own_one}
use Rattle.cn_table.proofs.Lists.{get_front}
use Rattle.cn_log.proofs.ListLemmas.OwnLists.{number_at, to_own}

-- the call that event i makes stands at its number
call_at : (p k operation : ℕ) (events : List Event) (i : ℕ) → slice_get events i ≡ Some (Invoke p operation)
    → slice_get (calls_from p k events) (calls_of p (take i events)) ≡ Some (call_of p operation (k + calls_of p (take i events)))
call_at p k operation [] i h = absurd cc
call_at p k operation (e ∷ events) zero h =
    let is : e ≡ Invoke p operation = cc in
    let own : (p == p) ≡ true = grind (arith, nat_tests) in
    let z : k + 0 ≡ k = omega arith in
    rw (is, own, z) refl
call_at p k operation (Step q ∷ events) (suc i) h = let n : calls_of p (Step q ∷ take i events) ≡ calls_of p (take i events) = calls_cons p (Step q) (take i events)
    ∙ (omega arith) in rw n (call_at p k operation events i h)
call_at p k operation (Invoke q o ∷ events) (suc i) h = go (q == p) refl (call_at p (k + 1) operation events i h) (call_at p k operation events i h)
  where
    go : (own : Bool) → (q == p) ≡ own → slice_get (calls_from p (k + 1) events) (calls_of p (take i events)) ≡ Some (call_of p operation ((k + 1) + calls_of p (take i events)))
        → slice_get (calls_from p k events) (calls_of p (take i events)) ≡ Some (call_of p operation (k + calls_of p (take i events)))
        → slice_get (calls_from p k (Invoke q o ∷ events)) (calls_of p (Invoke q o ∷ take i events)) ≡ Some (call_of p operation (k + calls_of p (Invoke q o ∷ take i events)))
    go true is later same =
        let n : calls_of p (Invoke q o ∷ take i events) ≡ suc (calls_of p (take i events)) = calls_cons p (Invoke q o) (take i events) ∙ (rw is (omega arith)) in
        let s : k + suc (calls_of p (take i events)) ≡ (k + 1) + calls_of p (take i events) = omega arith in
        rw (n, is, s) later
    go false is later same =
        let n : calls_of p (Invoke q o ∷ take i events) ≡ calls_of p (take i events) = calls_cons p (Invoke q o) (take i events) ∙ (rw is (omega arith)) in
        rw (n, is) same

-- an element of a process's own list is in the whole list, and the converse
from_own : (p : ℕ) (xs : List Entry) (i : ℕ) (x : Entry) → slice_get (entries_by p xs) i ≡ Some x → (j : ℕ) × (slice_get xs j ≡ Some x)
from_own p [] i x h = absurd cc
from_own p (y ∷ xs) i x h = go (y.process == p) i h (λ j g. from_own p xs j x g)
  where
    go : (own : Bool) (i : ℕ) → slice_get (if own then y ∷ entries_by p xs else entries_by p xs) i ≡ Some x
        → ((j : ℕ) → slice_get (entries_by p xs) j ≡ Some x → (k : ℕ) × (slice_get xs k ≡ Some x)) → (k : ℕ)
        × (slice_get (y ∷ xs) k ≡ Some x)
    go true zero h rest = (zero, h)
    go true (suc j) h rest = let r = rest j h in (suc r.0, r.1)
    go false i h rest = let r = rest i h in (suc r.0, r.1)

-- its own entries are not more than all entries
pub own_few : (p : ℕ) (xs : List Entry) → length (entries_by p xs) ≤ length xs
own_few p [] = omega arith
own_few p (x ∷ xs) = go (x.process == p) (own_few p xs)
  where
    go : (own : Bool) → length (entries_by p xs) ≤ length xs → length (if own then x ∷ entries_by p xs else entries_by p xs) ≤ suc (length xs)
    go true few = omega arith
    go false few = omega arith

-- a process has at most one entry in a batch, at its place
pub own_at : (n p : ℕ) (b : Batch) → IsShaped b → p < n → entries_by p (members n 0 b) ≡ and_entry (entry_at b p) []
own_at n p b shaped low = go (entry_at b p) refl
  where
    go : (o : Option Entry) → entry_at b p ≡ o → entries_by p (members n 0 b) ≡ and_entry o []
    go None is = own_none n 0 p b shaped is
    go (Some e) is = own_one n 0 p b e shaped (omega arith) (omega (arith, low)) is

module _ {R : Type 0} (L : Setting R) (Good : R → Type 0) (agrees : RoundsAgree L Good) (events : List Event) (may : IsEventList L events) (p q : ℕ) where
  abbrev known : List Entry
  known = seen_of L events p

  abbrev own : List Entry
  own = entries_by q known

  -- the entries of process q that process p has replayed are the first calls of process q
  first_calls : (i : ℕ) (x : Entry) → slice_get own i ≡ Some x → slice_get (calls_by q events) i ≡ Some x
  first_calls i x h = let m = seen_made L Good agrees q events may p in ap (λ l. slice_get l i) m.1 ∙ get_front own m.0 i x h

  module _ (e : Entry) (called : IsCalled e (state_of L events).history) (whose : e.process ≡ q) where
    -- the call stands at its number among those of its process
    at_number : slice_get (calls_by q events) e.call ≡ Some e
    at_number =
        let c = called_event L Good agrees events e called in
        let n : e.call ≡ calls_of e.process (take c.0 events) = c.1.number in
        let z : 0 + calls_of e.process (take c.0 events) ≡ e.call = omega (arith, n) in
        subst (λ i. slice_get (calls_by i events) e.call ≡ Some e) whose
        (ap (slice_get (calls_by e.process events)) n ∙ call_at e.process 0 e.operation.0 events c.0 c.1.invoke ∙ ap (λ i. Some (call_of e.process e.operation.0 i)) z)

    replayed_low : has_entry known e ≡ true → e.call < length own
    replayed_low h =
        let y = has_yes known e h in
        let o = to_own q known y.0 e whose y.2 in
        let n = number_at q 0 events o.0 e (first_calls o.0 e o.1) in
        let low = get_low own o.0 e o.1 in
        omega (arith, n, low)

    low_replayed : has_entry known e ≡ false → e.call < length own → ⊥
    low_replayed h low =
        let x = there_is own e.call low in
        let a = first_calls e.call x.0 x.1 in
        let b = at_number in
        let same : x.0 ≡ e = cc (a, b) in
        let f = from_own q known e.call e (x.1 ∙ ap Some same) in
        has_not known e h f.0 f.1

    -- process p has replayed the call exactly if the call's number is below the number of calls of its process that p has replayed
    pub by_number : nat_lt e.call (length own) ≡ has_entry known e
    by_number = go (has_entry known e) refl
      where
        go : (b : Bool) → has_entry known e ≡ b → nat_lt e.call (length own) ≡ b
        go true h = let low = replayed_low h in grind (arith, nat_tests)
        go false h = let high = low_replayed h in grind (arith, nat_tests)

  -- so a look gathers the same by the number
  pub gathered_by_number : (batch : Batch) → batch_with_calls ((state_of L events).announced q) (length own) q batch ≡ batch_with ((state_of L events).announced q) known q batch
  gathered_by_number batch = go ((state_of L events).announced q) refl
    where
      go : (o : Option Entry) → (state_of L events).announced q ≡ o → batch_with_calls o (length own) q batch ≡ batch_with o known q batch
      go None is = refl
      go (Some e) is =
          let a = (holds_after L Good agrees events may).announced q e is in
          ap (λ b. if b then batch else with_entry batch q e) (by_number e a.0 a.1)
