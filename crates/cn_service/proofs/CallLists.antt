-- The calls of a process among events.
use Rattle.std.proofs.Common.{◌≡◌, ℕ, ◌+◌, ◌==◌, Bool, true, false, List, [], ◌∷◌, ◌++◌, if◌then◌else◌, refl, sym, ap, ◌∙◌, append-nil}
use Rattle.std.proofs.lemmas.Bool.{ne_eqb, eq-eqb}
use Rattle.cn_log.specs.Callers.{HasNoEventOf, call_of, calls_from}
use Rattle.cn_log.specs.Log.{operations_of}
use Rattle.cn_log.specs.Opening.{Log}
use Rattle.cn_log.specs.declared.entry.Entry.{Entry}
use Rattle.cn_log.specs.declared.event.Event.{Event}
use Rattle.cn_log.specs.declared.event.Event.TheVariants.{Invoke, Step}
use Rattle.cn_hall.specs.Rule.{Carries}
use Rattle.cn_hall.specs.Calls.{MakesCall, NoCall}
use Rattle.cn_service.specs.Serving.{operations_called}

-- the operations of the calls, without the numbers of the calls
abbrev called : ℕ → List Event → List ℕ
called p [] = []
called p (Invoke q operation ∷ events) = if q == p then operation ∷ called p events else called p events
called p (Step q ∷ events) = called p events

one_called : (b : Bool) (e : Entry) (operation : ℕ) (es fs : List Entry) (xs : List ℕ) → e.operation.0 ≡ operation → operations_of es ≡ xs → operations_of fs ≡ xs
    → operations_of (if b then e ∷ es else fs) ≡ (if b then operation ∷ xs else xs)
one_called true e operation es fs xs is h k = (λ i. is i ∷ h i)
one_called false e operation es fs xs is h k = k

called_from : (p k : ℕ) (events : List Event) → operations_of (calls_from p k events) ≡ called p events
called_from p k [] = refl
called_from p k (Invoke q operation ∷ events) =
    one_called (q == p) (call_of p operation k) operation (calls_from p (k + 1) events) (calls_from p k events) (called p events) refl (called_from p (k + 1) events) (called_from p k events)
called_from p k (Step q ∷ events) = called_from p k events

called_if : (b : Bool) (operation : ℕ) (xs ys zs : List ℕ) → xs ≡ ys ++ zs → (if b then operation ∷ xs else xs) ≡ (if b then operation ∷ ys else ys) ++ zs
called_if true operation xs ys zs e = ap (λ l. operation ∷ l) e
called_if false operation xs ys zs e = e

called-append : (p : ℕ) (xs ys : List Event) → called p (xs ++ ys) ≡ called p xs ++ called p ys
called-append p [] ys = refl
called-append p (Invoke q operation ∷ xs) ys = called_if (q == p) operation (called p (xs ++ ys)) (called p xs) (called p ys) (called-append p xs ys)
called-append p (Step q ∷ xs) ys = called-append p xs ys

others_call : (p : ℕ) (events : List Event) → HasNoEventOf p events → called p events ≡ []
others_call p [] others = refl
others_call p (Invoke q operation ∷ events) others = rw (ne_eqb q p others.0) (others_call p events others.1)
others_call p (Step q ∷ events) others = others_call p events others.1

none_called : (p : ℕ) (events : List Event) → NoCall p events → called p events ≡ []
none_called p [] none = refl
none_called p (Invoke q operation ∷ events) none = rw (ne_eqb q p none.0) (none_called p events none.1)
none_called p (Step q ∷ events) none = none_called p events none

called_before : (p : ℕ) (xs events rest : List Event) → events ≡ xs ++ rest → called p rest ≡ [] → called p events ≡ called p xs
called_before p xs events rest is none = ap (called p) is ∙ called-append p xs rest ∙ ap (λ l. called p xs ++ l) none ∙ append-nil (called p xs)

called_carried : (p : ℕ) (log core : Log) → Carries p log core → called p core.schedule ≡ called p log.schedule
called_carried p log core h = called_before p log.schedule core.schedule h.1 h.2 (others_call p h.1 h.3)

called_one : (p operation : ℕ) → called p (Invoke p operation ∷ []) ≡ operation ∷ []
called_one p operation = rw (eq-eqb p p refl) refl

-- a core that carries a log has the same calls of the process
pub invoked_carried : (p : ℕ) (log core : Log) → Carries p log core → operations_called p core.schedule ≡ operations_called p log.schedule
invoked_carried p log core h = called_from p 0 core.schedule ∙ called_carried p log core h ∙ sym (called_from p 0 log.schedule)

-- a call adds its operation
pub invoked_called : (p operation : ℕ) (before now : Log) → MakesCall p operation before now → operations_called p now.schedule ≡ operations_called p before.schedule ++ operation ∷ []
invoked_called p operation before now h =
    let mid = h.0 in
    let s = h.1.0 in
    let made : called p mid.schedule ≡ called p s.schedule ++ operation ∷ []
    = ap (λ (core : Log). called p core.schedule) h.1.2 ∙ called-append p s.schedule (Invoke p operation ∷ []) ∙ ap (λ l. called p s.schedule ++ l) (called_one p operation) in
    called_from p 0 now.schedule ∙ called_before p mid.schedule now.schedule h.2.1 h.2.2 (none_called p h.2.1 h.2.3) ∙ made
    ∙ ap (λ l. l ++ operation ∷ []) (called_carried p before s h.1.1 ∙ sym (called_from p 0 before.schedule))
