-- The invariant of every event of the log.
use Rattle.std.proofs.Common.{ℕ, ◌≡◌, ◌⊎◌, inl, inr, ◌+◌, ◌<◌, ◌≤◌, List, [], ◌∷◌, length, slice_get, Some, None, refl, subst, arith}
use Rattle.cn_log.specs.declared.batch.Batch.{Batch}
use Rattle.cn_log.specs.declared.entry.Entry.{Entry}
use Rattle.cn_log.specs.declared.caller_state.Phase.{Phase}
use Rattle.cn_log.specs.declared.caller_state.Phase.TheVariants.{Idle, Looks, Runs}
use Rattle.cn_log.specs.Agreement.{RoundsAgree}
use Rattle.cn_log.specs.Batches.{HoldsEntry, entry_at, no_entries}
use Rattle.cn_log.specs.Callers.{IsUnseen}
use Rattle.cn_log.specs.Log.{Setting, World, Note, Called, Replied, FoundFull, response_in}
use Rattle.cn_log.proofs.ListLemmas.BatchEntries.{HasPlaces, none_there}

pub record IsNoted (note : Note) (notes : List Note) : Type 0 where
  pub place : ℕ
  pub there : slice_get notes place ≡ Some note

-- the entry is a call that was made
pub record IsCalled (e : Entry) (notes : List Note) : Type 0 where
  pub since : ℕ
  pub noted : IsNoted (Called e since) notes

abbrev pub IsRuns : Phase → Type 0
IsRuns Idle = ⊥
IsRuns (Looks e q batch) = ⊥
IsRuns (Runs e) = Unit {0}

-- a pending entry is the process's last call, announced, and in no slot that the process has replayed
pub record IsPending {R : Type 0} (L : Setting R) (w : World R) (p : ℕ) (mine : Entry) : Type 0 where
  pub unseen : IsUnseen (w.caller p).seen mine
  pub called : IsCalled mine w.history
  pub announced : w.announced p ≡ Some mine
  pub process : mine.process ≡ p
  pub call : mine.call + 1 ≡ (w.caller p).calls
  pub room : length (w.caller p).seen < L.capacity

-- each entry of the batch stands at the place of its process
abbrev pub IsShaped : Batch → Type 0
IsShaped b = (q : ℕ) (e : Entry) → entry_at b q ≡ Some e → e.process ≡ q

-- a batch that a process gathers for its next slot: calls, none of them in a slot that the process has replayed
pub record IsGathered (seen : List Batch) (history : List Note) (batch : Batch) : Type 0 where
  pub places : HasPlaces batch
  pub shaped : IsShaped batch
  pub called : (e : Entry) → HoldsEntry batch e → IsCalled e history
  pub unseen : (e : Entry) → HoldsEntry batch e → IsUnseen seen e

-- a process has gathered nothing when it begins to look
pub none_gathered : (seen : List Batch) (history : List Note) → IsGathered seen history no_entries
none_gathered seen history = record {
  places = record { operations = refl; calls = refl };
  shaped = λ i f at. absurd (none_there i f at);
  called = λ f at. absurd (none_there f.process f at);
  unseen = λ f at. absurd (none_there f.process f at);
}

pub record IsLooking {R : Type 0} (L : Setting R) (w : World R) (p : ℕ) (mine : Entry) (q : ℕ) (batch : Batch) : Type 0 where
  pub pending : IsPending L w p mine
  pub next : q < L.processes
  pub gathered : IsGathered (w.caller p).seen w.history batch

abbrev pub PhaseHolds : {R : Type 0} → Setting R → World R → ℕ → Phase → Type 0
PhaseHolds L w p Idle = Unit {0}
PhaseHolds L w p (Looks mine q batch) = IsLooking L w p mine q batch
PhaseHolds L w p (Runs mine) = IsPending L w p mine

-- the slot is fixed to a batch without v
pub record IsOther {R : Type 0} (L : Setting R) (r : R) (v : Entry) : Type 0 where
  pub batch : Batch
  pub fixed : L.consensus.fixed r ≡ Some batch
  pub other : HoldsEntry batch v → ⊥

-- the input of a process in slot k: every earlier slot is fixed, and the entries are calls that are in none of these slots
pub record IsBegun {R : Type 0} (L : Setting R) (w : World R) (k : ℕ) (v : Batch) : Type 0 where
  pub shaped : IsShaped v
  pub called : (e : Entry) → HoldsEntry v e → IsCalled e w.history
  pub other : (e : Entry) → HoldsEntry v e → (j : ℕ) → j < k → IsOther L (w.round j) e
  pub turn : (j : ℕ) → j < k → (x : Batch) × (L.consensus.fixed (w.round j) ≡ Some x)

pub record Holds {R : Type 0} (L : Setting R) (Good : R → Type 0) (w : World R) : Type 0 where
  pub good : (k : ℕ) → Good (w.round k)
  -- the batches that a process has replayed are fixed
  pub seen : (p k : ℕ) (x : Batch) → slice_get (w.caller p).seen k ≡ Some x → L.consensus.fixed (w.round k) ≡ Some x
  -- a process has begun in the slots that it has replayed, and in the one in which it runs
  pub entered : (k q : ℕ) (v : Batch) → L.consensus.input (w.round k) q ≡ Some v → (k < length (w.caller q).seen) ⊎ ((k ≡ length (w.caller q).seen) × IsRuns (w.caller q).phase)
  -- a process that runs in a slot has begun there and not decided
  pub running : (q : ℕ) → IsRuns (w.caller q).phase
      → (v : Batch) × (L.consensus.input (w.round (length (w.caller q).seen)) q ≡ Some v) × (L.consensus.decided (w.round (length (w.caller q).seen)) q ≡ None)
  pub begun : (k q : ℕ) (v : Batch) → L.consensus.input (w.round k) q ≡ Some v → IsBegun L w k v
  pub phases : (p : ℕ) → PhaseHolds L w p (w.caller p).phase
  pub announced : (p : ℕ) (a : Entry) → w.announced p ≡ Some a → IsCalled a w.history × (a.process ≡ p)
  pub numbered : (e : Entry) → IsCalled e w.history → e.call < (w.caller e.process).calls

-- the batch of the slot holds the entry
pub record Stands {R : Type 0} (L : Setting R) (w : World R) (e : Entry) (k : ℕ) : Type 0 where
  pub batch : Batch
  pub fixed : L.consensus.fixed (w.round k) ≡ Some batch
  pub has : HoldsEntry batch e

module _ {R : Type 0} (L : Setting R) (Good : R → Type 0) (agrees : RoundsAgree L Good) (w : World R) (holds : Holds L Good w) where
  -- a fixed batch is an input
  pub fixed_begun : (k : ℕ) (y : Batch) → L.consensus.fixed (w.round k) ≡ Some y → IsBegun L w k y
  fixed_begun k y h = let b = agrees.valid (w.round k) y (holds.good k) h in holds.begun k b.0 y b.1

  -- no entry is in two slots
  pub stands_once : (j k : ℕ) (e : Entry) → Stands L w e j → Stands L w e k → j ≡ k
  stands_once j k e hj hk = go (cases j k)
    where
      cases : (j k : ℕ) → (j < k) ⊎ ((k < j) ⊎ (j ≡ k))
      cases j k = grind arith

      apart : (a b : ℕ) → a < b → Stands L w e a → Stands L w e b → ⊥
      apart a b lt ha hb =
          let o = (fixed_begun b hb.batch hb.fixed).other e hb.has a lt in
          let f = o.fixed in
          let g = ha.fixed in
          let same : ha.batch ≡ o.batch = cc (f, g) in
          o.other (subst (λ (z : Batch). HoldsEntry z e) same ha.has)

      go : (j < k) ⊎ ((k < j) ⊎ (j ≡ k)) → j ≡ k
      go (inl lt) = absurd (apart j k lt hj hk)
      go (inr (inl lt)) = absurd (apart k j lt hk hj)
      go (inr (inr e)) = e

  -- slots are fixed in order
  pub in_order : (j k : ℕ) (y : Batch) → j < k → L.consensus.fixed (w.round k) ≡ Some y → (x : Batch) × (L.consensus.fixed (w.round j) ≡ Some x)
  in_order j k y lt h = (fixed_begun k y h).turn j lt

abbrev pub IsMine : Phase → Entry → Type 0
IsMine Idle e = ⊥
IsMine (Looks mine q batch) e = mine ≡ e
IsMine (Runs mine) e = mine ≡ e

-- a batch that was replayed holds the entry
pub record IsSeen (seen : List Batch) (e : Entry) : Type 0 where
  pub slot : ℕ
  pub batch : Batch
  pub there : slice_get seen slot ≡ Some batch
  pub has : HoldsEntry batch e

-- the response is the reply of the slot: that of one sequential run of the entries before
pub record IsReply {R : Type 0} (L : Setting R) (w : World R) (e : Entry) (k : ℕ) (response : ℕ) : Type 0 where
  pub stands : Stands L w e k
  pub within : k < L.capacity
  pub before : List Batch
  pub many : length before ≡ k
  pub are : (j : ℕ) (x : Batch) → slice_get before j ≡ Some x → L.consensus.fixed (w.round j) ≡ Some x
  pub reply : response ≡ response_in L before stands.batch e

-- a call comes after the slots of all earlier answers
abbrev pub IsOrdered : List Note → Type 0
IsOrdered [] = Unit {0}
IsOrdered (Called e since ∷ notes) = ((f : Entry) (k r : ℕ) → IsNoted (Replied f k r) notes → k < since) × IsOrdered notes
IsOrdered (Replied e k r ∷ notes) = IsOrdered notes
IsOrdered (FoundFull e ∷ notes) = IsOrdered notes

-- one of the slots up to k holds it
pub record StandsBy {R : Type 0} (L : Setting R) (w : World R) (e : Entry) (k : ℕ) : Type 0 where
  pub slot : ℕ
  pub low : slot ≤ k
  pub stands : Stands L w e slot

-- a process that looks has gathered each call of the processes that it has looked at, made before its slot was the next one, unless the log holds it now
abbrev pub HasGathered : {R : Type 0} → Setting R → World R → List Batch → Phase → Type 0
HasGathered L w seen Idle = Unit {0}
HasGathered L w seen (Looks mine q batch) = (e : Entry) (since : ℕ) → IsNoted (Called e since) w.history → since < length seen → e.process < q → HoldsEntry batch e ⊎ StandsBy L w e (length seen)
HasGathered L w seen (Runs mine) = Unit {0}

pub record Facts {R : Type 0} (L : Setting R) (w : World R) : Type 0 where
  -- at most as many slots were fixed at a call as are now
  pub since_low : (e : Entry) (since : ℕ) → IsNoted (Called e since) w.history → (k : ℕ) → k < L.capacity → L.consensus.fixed (w.round k) ≡ None → since ≤ k
  -- an entry is in a slot that was open at its call
  pub stood : (e : Entry) (since k : ℕ) → IsNoted (Called e since) w.history → Stands L w e k → since ≤ k
  pub answered : (e : Entry) (k r : ℕ) → IsNoted (Replied e k r) w.history → IsReply L w e k r
  -- a call that ended without an answer is in no slot, and every slot is fixed
  pub ended : (e : Entry) → IsNoted (FoundFull e) w.history → (k : ℕ) → k < L.capacity → IsOther L (w.round k) e
  pub ordered : IsOrdered w.history
  -- a call is pending, or its process has replayed it, or its process has replayed every slot
  pub done : (e : Entry) → IsCalled e w.history → IsMine (w.caller e.process).phase e ⊎ (IsSeen (w.caller e.process).seen e ⊎ (L.capacity ≤ length (w.caller e.process).seen))
  pub gathers : (p : ℕ) → HasGathered L w (w.caller p).seen (w.caller p).phase
  -- in a slot behind the next one, every process begins with e once it is called, or e is in an earlier slot
  pub helps : (e : Entry) (since : ℕ) → IsNoted (Called e since) w.history → e.process < L.processes → (k q : ℕ) (v : Batch) → since < k → k < L.capacity
      → L.consensus.input (w.round k) q ≡ Some v → HoldsEntry v e ⊎ StandsBy L w e k
  -- when a process makes a call, the log holds every earlier call of it
  pub earlier : (e : Entry) (since : ℕ) → IsNoted (Called e since) w.history → (f : Entry) → IsCalled f w.history → f.process ≡ e.process → f.call < e.call → (j : ℕ) × (j < since) × Stands L w f j
  -- the numbers of calls have no gap
  pub dense : (p c : ℕ) → c < (w.caller p).calls → (f : Entry) × IsCalled f w.history × (f.process ≡ p) × (f.call ≡ c)
