-- The entries of the fixed slots.
use Rattle.std.proofs.Common.{ℕ, zero, suc, ◌≡◌, ◌≢◌, ◌⊎◌, inl, inr, ◌+◌, ◌<◌, ◌≤◌, List, [], ◌∷◌, ◌++◌, length, slice_get, Option, Some, None, refl, ap, ◌∙◌, arith, if◌then◌else◌}
use Rattle.cn_log.specs.declared.entry.Entry.{Entry}
use Rattle.cn_log.specs.declared.batch.Batch.{Batch}
use Rattle.std.proofs.Common.{true, false, ◌==◌, length-append}
use Rattle.std.proofs.lemmas.Bool.{cases_eq}
use Rattle.std.proofs.lemmas.Bool.Decides.{nat_tests}
use Rattle.cn_log.specs.Log.{Setting, put, operations_of, up_to_open, fixed_from}
use Rattle.cn_log.proofs.ListLemmas.Places.{put_same, put_other, get_push_cases}
use Rattle.cn_table.specs.TypeTable.{TypeTable, transition}
use Rattle.cn_table.specs.Run.{responses_along, state_after}

module _ {R : Type 0} (L : Setting R) (round : ℕ → R) where
  pub entry_fixed : (fuel base k : ℕ) (e : Batch) → slice_get (fixed_from L fuel base round) k ≡ Some e → (k < fuel) × (L.consensus.fixed (round (base + k)) ≡ Some e)
  entry_fixed zero base k e h = absurd cc
  entry_fixed (suc fuel) base k e h = go (L.consensus.fixed (round base)) refl k h (λ j g. entry_fixed fuel (suc base) j e g)
    where
      go : (o : Option Batch) → L.consensus.fixed (round base) ≡ o → (k : ℕ) → slice_get (up_to_open o (fixed_from L fuel (suc base) round)) k ≡ Some e
          → ((j : ℕ) → slice_get (fixed_from L fuel (suc base) round) j ≡ Some e → (j < fuel) × (L.consensus.fixed (round (suc base + j)) ≡ Some e))
          → (k < suc fuel) × (L.consensus.fixed (round (base + k)) ≡ Some e)
      go None is k h rest = absurd cc
      go (Some x) is zero h rest = (omega arith, (let b : base + 0 ≡ base = omega arith in rw b (is ∙ h)))
      go (Some x) is (suc k) h rest = let r = rest k h in ((let l = r.0 in omega arith), (let b : base + suc k ≡ suc base + k = omega arith in rw b r.1))

  pub fixed_entry : (fuel base k : ℕ) (e : Batch) → k < fuel → ((j : ℕ) → j < k → (x : Batch) × (L.consensus.fixed (round (base + j)) ≡ Some x)) → L.consensus.fixed (round (base + k)) ≡ Some e
      → slice_get (fixed_from L fuel base round) k ≡ Some e
  fixed_entry zero base k e less below h = absurd (omega arith)
  fixed_entry (suc fuel) base zero e less below h = let b : base + 0 ≡ base = omega arith in let g : L.consensus.fixed (round base) ≡ Some e = rw b at h in rw g refl
  fixed_entry (suc fuel) base (suc k) e less below h =
      let b : base + 0 ≡ base = omega arith in
      let x = below 0 (omega arith) in
      let g : L.consensus.fixed (round base) ≡ Some x.0 = rw b at x.1 in
      let c : base + suc k ≡ suc base + k = omega arith in
      rw g (fixed_entry fuel (suc base) k e (omega arith) (λ j l. (let y = below (suc j) (omega arith) in let d : base + suc j ≡ suc base + j = omega arith in (y.0, rw d at y.1))) (rw c at h))

  pub all_fixed : (fuel base : ℕ) → ((j : ℕ) → j < fuel → (x : Batch) × (L.consensus.fixed (round (base + j)) ≡ Some x)) → length (fixed_from L fuel base round) ≡ fuel
  all_fixed zero base all = refl
  all_fixed (suc fuel) base all =
      let b : base + 0 ≡ base = omega arith in
      let x = all 0 (omega arith) in
      let g : L.consensus.fixed (round base) ≡ Some x.0 = rw b at x.1 in
      rw g (ap suc (all_fixed fuel (suc base) (λ j l. (let y = all (suc j) (omega arith) in let d : base + suc j ≡ suc base + j = omega arith in (y.0, rw d at y.1)))))

pub entries_few : {R : Type 0} (L : Setting R) (round : ℕ → R) (slots base : ℕ) → length (fixed_from L slots base round) ≤ slots
entries_few L round zero base = omega arith
entries_few L round (suc slots) base = go (L.consensus.fixed (round base)) (entries_few L round slots (suc base))
  where
    go : (o : Option Batch) → length (fixed_from L slots (suc base) round) ≤ slots → length (up_to_open o (fixed_from L slots (suc base) round)) ≤ suc slots
    go None few = omega arith
    go (Some e) few = omega arith

-- if fixed slots stay, entries stay
pub entries_stay : {R : Type 0} (L : Setting R) (round after : ℕ → R) → ((k : ℕ) (e : Batch) → L.consensus.fixed (round k) ≡ Some e → L.consensus.fixed (after k) ≡ Some e) → (fuel base : ℕ)
    → (rest : List Batch) × (fixed_from L fuel base after ≡ fixed_from L fuel base round ++ rest)
entries_stay L round after stay zero base = ([], refl)
entries_stay L round after stay (suc fuel) base = go (L.consensus.fixed (round base)) refl (entries_stay L round after stay fuel (suc base))
  where
    go : (o : Option Batch) → L.consensus.fixed (round base) ≡ o → (rest : List Batch) × (fixed_from L fuel (suc base) after ≡ fixed_from L fuel (suc base) round ++ rest)
        → (rest : List Batch) × (fixed_from L (suc fuel) base after ≡ up_to_open o (fixed_from L fuel (suc base) round) ++ rest)
    go None is more = (fixed_from L (suc fuel) base after, refl)
    go (Some e) is more = (more.0, rw (stay base e is) (ap (λ es. e ∷ es) more.1))

-- the response of the sequential run at a place
pub response_there : (t : TypeTable) (before es : List Entry) (state k : ℕ) (e : Entry) → length before ≡ k
    → ((j : ℕ) (x : Entry) → slice_get before j ≡ Some x → slice_get es j ≡ Some x) → slice_get es k ≡ Some e
    → slice_get (responses_along t state (operations_of es)) k ≡ Some (transition t e.operation.0 (state_after t state (operations_of before))).0
response_there t before [] state k e len are h = absurd cc
response_there t [] (x ∷ es) state zero e len are h = let same : x ≡ e = cc in ap (λ (z : Entry). Some (transition t z.operation.0 state).0) same
response_there t [] (x ∷ es) state (suc k) e len are h = absurd cc
response_there t (y ∷ before) (x ∷ es) state zero e len are h = absurd cc
response_there t (y ∷ before) (x ∷ es) state (suc k) e len are h =
    let g = are zero y refl in
    let same : x ≡ y = cc in
    let rest = response_there t before es (transition t x.operation.0 state).1 k e (omega arith) (λ j z s. are (suc j) z s) h in
    rest ∙ ap (λ (z : Entry). Some (transition t e.operation.0 (state_after t (transition t z.operation.0 state).1 (operations_of before))).0) same

-- the slots determine the entries: fixed to these batches, then the end or an open slot
pub fixed_from_is : {R : Type 0} (L : Setting R) (round : ℕ → R) (slots base : ℕ) (es : List Batch) → length es ≤ slots
    → ((j : ℕ) (x : Batch) → slice_get es j ≡ Some x → L.consensus.fixed (round (base + j)) ≡ Some x)
    → (length es ≡ slots) ⊎ (L.consensus.fixed (round (base + length es)) ≡ None) → fixed_from L slots base round ≡ es
fixed_from_is L round zero base [] few are end = refl
fixed_from_is L round zero base (e ∷ es) few are end = absurd (omega arith)
fixed_from_is L round (suc slots) base [] few are (inl end) = absurd (omega arith)
fixed_from_is L round (suc slots) base [] few are (inr open_there) =
    let z : base + 0 ≡ base = omega arith in
    let h : L.consensus.fixed (round base) ≡ None = rw z at open_there in
    rw h refl
fixed_from_is L round (suc slots) base (e ∷ es) few are end =
    let z : base + 0 ≡ base = omega arith in
    let h : L.consensus.fixed (round base) ≡ Some e = rw z at (are 0 e refl) in
    let s : (j : ℕ) → base + suc j ≡ suc base + j = (λ j. omega arith) in
    let later : (length es ≡ slots) ⊎ (L.consensus.fixed (round (suc base + length es)) ≡ None) = elim end [ inl full ↦ inl (omega arith) | inr none ↦ inr (rw (← s (length es)) none) ] in
    rw h (ap (λ xs. e ∷ xs) (fixed_from_is L round slots (suc base) es (omega arith) (λ j x g. rw (← s j) (are (suc j) x g)) later))

-- if each slot is fixed to the same batch, the entries are the same
pub fixed_from_same : {R : Type 0} (L : Setting R) (round after : ℕ → R) → ((k : ℕ) → L.consensus.fixed (after k) ≡ L.consensus.fixed (round k)) → (slots base : ℕ)
    → fixed_from L slots base after ≡ fixed_from L slots base round
fixed_from_same L round after same zero base = refl
fixed_from_same L round after same (suc slots) base = rw (same base, fixed_from_same L round after same slots (suc base)) refl

-- the batches, and then that of slot k if it is fixed and the next one
abbrev pub entered : List Batch → ℕ → Option Batch → List Batch
entered batches k None = batches
entered batches k (Some b) = if length batches == k then batches ++ b ∷ [] else batches

-- the entries after one slot comes to another round that keeps its fixed value
module _ {R : Type 0} (L : Setting R) (round : ℕ → R) (k : ℕ) (r : R) (es : List Batch) (low : k ≤ length es) (room : k < L.capacity)
    (are : (j : ℕ) (x : Batch) → slice_get es j ≡ Some x → L.consensus.fixed (round j) ≡ Some x)
    (end : (length es ≡ L.capacity) ⊎ (L.consensus.fixed (round (length es)) ≡ None))
    (few : length es ≤ L.capacity)
    (in_order : (j i : ℕ) (y : Batch) → j < i → L.consensus.fixed (round i) ≡ Some y → (x : Batch) × (L.consensus.fixed (round j) ≡ Some x))
    (keeps : (y : Batch) → L.consensus.fixed (round k) ≡ Some y → L.consensus.fixed r ≡ Some y) where
  abbrev after : ℕ → R
  after = put round k r

  here : L.consensus.fixed (after k) ≡ L.consensus.fixed r
  here = ap L.consensus.fixed (put_same round k r)

  there : (j : ℕ) → j ≢ k → L.consensus.fixed (after j) ≡ L.consensus.fixed (round j)
  there j ne = ap L.consensus.fixed (put_other round k r j ne)

  stays : (j : ℕ) (x : Batch) → slice_get es j ≡ Some x → L.consensus.fixed (after (0 + j)) ≡ Some x
  stays j x h = let z : 0 + j ≡ j = omega arith in rw z (elim (cases_eq j k) [
    | inl e ↦ rw e (here ∙ keeps x (rw e at (are j x h)))
    | inr ne ↦ there j ne ∙ are j x h
  ])

  further : k < length es → fixed_from L L.capacity 0 after ≡ es
  further less = fixed_from_is L after L.capacity 0 es few stays (elim end [
    | inl full ↦ inl full
    | inr none ↦ inr (let z : 0 + length es ≡ length es = omega arith in let ne : length es ≢ k = (λ e. absurd (omega arith)) in rw z (there (length es) ne ∙ none))
  ])

  still_open : length es ≡ k → L.consensus.fixed r ≡ None → fixed_from L L.capacity 0 after ≡ es
  still_open e none = fixed_from_is L after L.capacity 0 es few stays (inr (let z : 0 + length es ≡ k = omega arith in rw z (here ∙ none)))

  not_fixed : length es ≡ k → L.consensus.fixed (round k) ≡ None
  not_fixed e = elim end [ inl full ↦ absurd (omega arith) | inr none ↦ rw e at none ]

  next_open : length es ≡ k → L.consensus.fixed (round (k + 1)) ≡ None
  next_open e = go (L.consensus.fixed (round (k + 1))) refl
    where
      go : (o : Option Batch) → L.consensus.fixed (round (k + 1)) ≡ o → o ≡ None
      go None h = refl
      go (Some y) h = let x = in_order k (k + 1) y (omega arith) h in let f = x.1 in let n = not_fixed e in absurd (cc (f, n))

  now_fixed : length es ≡ k → (y : Batch) → L.consensus.fixed r ≡ Some y → fixed_from L L.capacity 0 after ≡ es ++ y ∷ []
  now_fixed e y h =
      let len : length (es ++ y ∷ []) ≡ length es + 1 = length-append es (y ∷ []) in
      fixed_from_is L after L.capacity 0 (es ++ y ∷ []) (omega arith)
      (λ j x g. elim (get_push_cases es y j x g) [
        | inl old ↦ stays j x old
        | inr new ↦ (let z : 0 + j ≡ k = (let a = new.0 in omega arith) in rw z (here ∙ h ∙ ap Some new.1))
      ])
      (elim (cases_eq (k + 1) L.capacity) [
        | inl full ↦ inl (omega arith)
        | inr ne ↦ inr (let z : 0 + length (es ++ y ∷ []) ≡ k + 1 = omega arith in let away : k + 1 ≢ k = (λ s. absurd (omega arith)) in rw z (there (k + 1) away ∙ next_open e))
      ])

  pub entered_is : fixed_from L L.capacity 0 (put round k r) ≡ entered es k (L.consensus.fixed r)
  entered_is = go (L.consensus.fixed r) refl (cases_eq (length es) k)
    where
      go : (o : Option Batch) → L.consensus.fixed r ≡ o → (length es ≡ k) ⊎ (length es ≢ k) → fixed_from L L.capacity 0 after ≡ entered es k o
      go None h (inl e) = still_open e h
      go None h (inr ne) = further (grind arith)
      go (Some y) h (inl e) = let t : (length es == k) ≡ true = grind (arith, nat_tests) in rw t (now_fixed e y h)
      go (Some y) h (inr ne) = let t : (length es == k) ≡ false = grind (arith, nat_tests) in rw t (further (grind arith))
