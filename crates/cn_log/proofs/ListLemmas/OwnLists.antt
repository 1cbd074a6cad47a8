-- The pending call, the calls, the entries and the steps of one process, in lists; for this crate and those above.
use Rattle.std.proofs.Common.{◌≡◌, ◌≢◌, ℕ, zero, suc, ◌+◌, ◌==◌, if◌then◌else◌, Bool, true, false, cond, List, [], ◌∷◌, Some, slice_get, refl, ap, ◌∙◌, arith}
use Rattle.std.proofs.lemmas.List.Sums.{sum_by-cons}
use Rattle.std.proofs.lemmas.Bool.Decides.{nat_tests}
use Rattle.cn_log.specs.Callers.{call_of, calls_from, entries_by, pending_in}
use Rattle.cn_log.specs.OwnSteps.{is_step_of, steps_of}
use Rattle.cn_log.specs.declared.entry.Entry.{Entry}
use Rattle.cn_log.specs.declared.event.Event.{Event}
use Rattle.cn_log.specs.declared.event.Event.TheVariants.{Invoke, Step}
use Rattle.cn_log.specs.declared.caller_state.Phase.{Phase}
use Rattle.cn_log.specs.declared.caller_state.Phase.TheVariants.{Idle, Looks, Runs}

-- the number of a call is its place
pub number_at : (p k : ℕ) (events : List Event) (i : ℕ) (x : Entry) → slice_get (calls_from p k events) i ≡ Some x → x.call ≡ k + i
number_at p k [] i x h = absurd cc
number_at p k (Step q ∷ events) i x h = number_at p k events i x h
number_at p k (Invoke q operation ∷ events) i x h = go (q == p) i h (λ j g. number_at p (k + 1) events j x g) (λ g. number_at p k events i x g)
  where
    go : (own : Bool) (i : ℕ) → slice_get (if own then call_of p operation k ∷ calls_from p (k + 1) events else calls_from p k events) i ≡ Some x
        → ((j : ℕ) → slice_get (calls_from p (k + 1) events) j ≡ Some x → x.call ≡ (k + 1) + j) → (slice_get (calls_from p k events) i ≡ Some x → x.call ≡ k + i) → x.call ≡ k + i
    go true zero h later same = let e : call_of p operation k ≡ x = cc in let n : k ≡ x.call = ap (λ (z : Entry). z.call) e in omega (arith, n)
    go true (suc j) h later same = let n = later j h in omega (arith, n)
    go false i h later same = same h

-- an element of the whole list that is a process's own is in its own list
pub to_own : (p : ℕ) (xs : List Entry) (j : ℕ) (x : Entry) → x.process ≡ p → slice_get xs j ≡ Some x → (i : ℕ) × (slice_get (entries_by p xs) i ≡ Some x)
to_own p [] j x own h = absurd cc
to_own p (y ∷ xs) zero x own h =
    let same : y ≡ x = cc in
    let t : (y.process == p) ≡ true = (let e : y.process ≡ p = ap (λ (z : Entry). z.process) same ∙ own in grind (arith, nat_tests)) in
    (zero, rw t (ap Some same))
to_own p (y ∷ xs) (suc j) x own h = go (y.process == p) refl (to_own p xs j x own h)
  where
    go : (b : Bool) → (y.process == p) ≡ b → (i : ℕ) × (slice_get (entries_by p xs) i ≡ Some x) → (i : ℕ) × (slice_get (entries_by p (y ∷ xs)) i ≡ Some x)
    go true t r = (suc r.0, rw t r.1)
    go false t r = (r.0, rw t r.1)

-- an event in front is a step of the process, or not
pub steps_cons : (p : ℕ) (e : Event) (events : List Event) → steps_of p (e ∷ events) ≡ cond (is_step_of p e) 1 0 + steps_of p events
steps_cons p e events = sum_by-cons (λ x. cond (is_step_of p x) 1 0) e events

-- a process with a pending call is not idle
pub not_idle : {e : Entry} (ph : Phase) → pending_in ph ≡ Some e → ph ≢ Idle
not_idle Idle h is = cc h
not_idle (Looks mine q batch) h is = cc is
not_idle (Runs mine) h is = cc is
