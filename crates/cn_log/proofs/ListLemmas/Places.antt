-- Reads of a function after a change at one place, and of entries.
use Rattle.std.proofs.Common.{ℕ, zero, suc, ◌≡◌, ◌≢◌, Bool, true, false, ◌<◌, ◌==◌, List, [], ◌∷◌, ◌++◌, length, take, slice_get, Some, refl, sym, ap, arith, true≢false}
use Rattle.std.proofs.lemmas.Bool.Decides.{nat_tests}
pub use Rattle.cn_table.proofs.Lists.{get_low, get_push_cases, get_push_new, get_push_old, there_is}
use Rattle.cn_log.specs.declared.entry.Entry.{Entry}
use Rattle.cn_log.specs.Batches.{same_entry}
use Rattle.cn_log.specs.Log.{has_entry, put}

pub put_same : {A : Type 0} (f : ℕ → A) (i : ℕ) (x : A) → put f i x i ≡ x
put_same f i x = go i refl
  where
    go : (j : ℕ) → j ≡ i → put f i x j ≡ x
    go j e = let t : (j == i) ≡ true = grind (arith, nat_tests) in rw t

pub put_other : {A : Type 0} (f : ℕ → A) (i : ℕ) (x : A) (j : ℕ) → j ≢ i → put f i x j ≡ f j
put_other f i x j ne = let t : (j == i) ≡ false = grind (arith, nat_tests) in rw t

pub same_is : (e f : Entry) → same_entry e f ≡ true → e ≡ f
same_is e f h =
    let a : e.process ≡ f.process = grind (arith, nat_tests) in
    let b : e.operation.0 ≡ f.operation.0 = grind (arith, nat_tests) in
    let c : e.call ≡ f.call = grind (arith, nat_tests) in
    λ i. record { process = a i; operation = record { 0 = b i }; call = c i }

pub same_refl : (e : Entry) → same_entry e e ≡ true
same_refl e = go e refl
  where
    go : (f : Entry) → f ≡ e → same_entry f e ≡ true
    go f h =
        let a : f.process ≡ e.process = ap (λ (z : Entry). z.process) h in
        let b : f.operation.0 ≡ e.operation.0 = ap (λ (z : Entry). z.operation.0) h in
        let c : f.call ≡ e.call = ap (λ (z : Entry). z.call) h in grind (arith, nat_tests)

pub same_not : (e f : Entry) → same_entry e f ≡ false → e ≢ f
same_not e f h same = let t : same_entry e f ≡ true = rw same (same_refl f) in cc (t, h)

-- an entry that is not found is not in the list
pub has_not : (es : List Entry) (e : Entry) → has_entry es e ≡ false → (k : ℕ) → slice_get es k ≢ Some e
has_not [] e h k s = absurd cc
has_not (f ∷ es) e h k s = go (same_entry f e) refl (has_not es e) k s
  where
    go : (b : Bool) → same_entry f e ≡ b → (has_entry es e ≡ false → (k : ℕ) → slice_get es k ≢ Some e) → (k : ℕ) → slice_get (f ∷ es) k ≡ Some e → ⊥
    go true t rest k s = let h' : true ≡ false = rw t at h in true≢false h'
    go false t rest zero s = same_not f e t cc
    go false t rest (suc k) s = rest (rw t at h) k s

-- the element behind the first list
pub get_seam : {A : Type 0} (xs : List A) (x : A) (ys : List A) → slice_get (xs ++ x ∷ ys) (length xs) ≡ Some x
get_seam [] x ys = refl
get_seam (y ∷ xs) x ys = get_seam xs x ys

-- an entry that is found is in the list
pub has_yes : (es : List Entry) (e : Entry) → has_entry es e ≡ true → (k : ℕ) × (k < length es) × (slice_get es k ≡ Some e)
has_yes [] e h = absurd (true≢false (sym h))
has_yes (f ∷ es) e h = go (same_entry f e) refl (has_yes es e)
  where
    go : (b : Bool) → same_entry f e ≡ b → (has_entry es e ≡ true → (k : ℕ) × (k < length es) × (slice_get es k ≡ Some e)) → (k : ℕ) × (k < length (f ∷ es)) × (slice_get (f ∷ es) k ≡ Some e)
    go true t rest = (zero, omega arith, ap Some (same_is f e t))
    go false t rest = let r = rest (rw t at h) in (suc r.0, (let l = r.1 in omega arith), r.2)

-- a list at the front of another is its prefix of that length
pub take_front : {A : Type 0} (front xs : List A) → ((j : ℕ) (x : A) → slice_get front j ≡ Some x → slice_get xs j ≡ Some x) → take (length front) xs ≡ front
take_front [] [] same = refl
take_front [] (y ∷ xs) same = refl
take_front (x ∷ front) [] same = absurd (let h = same zero x refl in cc h)
take_front (x ∷ front) (y ∷ xs) same =
    let h = same zero x refl in
    let e : y ≡ x = cc in
    rw (e, take_front front xs (λ j z g. same (suc j) z g)) refl
