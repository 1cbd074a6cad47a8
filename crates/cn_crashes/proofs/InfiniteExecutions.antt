-- Recoverable wait-freedom in infinite executions: it follows from the inductive form; and, with
-- excluded middle, that form follows from it.
use Rattle.std.proofs.Common.{◌≡◌, ◌≢◌, ℕ, zero, suc, ◌+◌, ◌-◌, ◌<◌, ◌≤◌, inl, inr, List, [], ◌∷◌}
use Rattle.std.proofs.Common.{◌++◌, refl, sym, ap, ◌∙◌, arith, Bool, Option, Some, None}
use Rattle.cn_table.specs.TypeTable.{TypeTable}
use Rattle.cn_consensus.specs.Protocol.{Protocol}
use Rattle.cn_consensus.specs.Configuration.{Configuration, decided_by, decision, initial, step}
use Rattle.cn_consensus.proofs.Alike.{put-other, stays_by_step}
use Rattle.cn_crashes.specs.Execution.{Event, IsExecution, NeverCrashes, after_execution}
use Rattle.cn_crashes.specs.Execution.{after_event, process_of}
use Rattle.cn_crashes.specs.Execution.Event.{Step, Crash}
use Rattle.cn_crashes.specs.InfiniteExecutions.{DecidesInInfiniteExecutions, GoesOn, ExcludedMiddle}
use Rattle.cn_crashes.specs.InfiniteExecutions.{StepsInfinitelyOften, first_events}
use Rattle.cn_crashes.specs.RecoverableWaitFreedom.{EndsFor, IsRecoverablyWaitFree}
use Rattle.cn_crashes.specs.RecoverableWaitFreedom.EndsFor.{Ending}
use Rattle.cn_crashes.proofs.Executions.{after_execution-append, append-assoc, append-none}

-- d events from k on
between : (ℕ → Event) → ℕ → ℕ → List Event
between f k zero = []
between f k (suc d) = f k ∷ between f (suc k) d

first_more : (f : ℕ → Event) (d k : ℕ) → first_events f (k + d) ≡ first_events f k ++ between f k d
unfolding between
first_more f zero k = ap (first_events f) (let e : k + 0 ≡ k = omega arith in e)
    ∙ sym (append-none (first_events f k))
first_more f (suc d) k =
    ap (first_events f) (let e : k + suc d ≡ suc k + d = omega arith in e)
    ∙ (first_more f d (suc k) ∙ append-assoc (first_events f k) (f k ∷ []) (between f (suc k) d))

between_known : (n : ℕ) (f : ℕ → Event) → ((k : ℕ) → process_of (f k) < n) → (d k : ℕ)
    → IsExecution n (between f k d)
unfolding between
between_known n f h zero k = tt
between_known n f h (suc d) k = (h k, between_known n f h d (suc k))

between_never : (p : ℕ) (f : ℕ → Event) → ((k : ℕ) → f k ≢ Crash p) → (d k : ℕ)
    → NeverCrashes p (between f k d)
unfolding between
between_never p f h zero k = tt
between_never p f h (suc d) k = (h k, between_never p f h d (suc k))

-- ---- a process that does not take steps for ever decides

module _ {L V : Type 0} (t : ℕ → TypeTable) (n : ℕ) (P : Protocol L V) (inputs : ℕ
    → Bool) (first : Configuration L V) (f : ℕ → Event) (known : (k : ℕ)
    → process_of (f k) < n) (p : ℕ)
    (often : StepsInfinitelyOften f p) (never : (k : ℕ) → f k ≢ Crash p) where
  reach : ℕ → Configuration L V
  reach k = after_execution t P inputs first (first_events f k)

  abbrev Decides : Type 0
  Decides = (k : ℕ) × (x : Bool) × (decision P
      (after_execution t P inputs first (first_events f k)) p ≡ Some x)

  reach_on : (k m : ℕ) → k ≤ m → reach m ≡ after_execution t P inputs (reach k)
      (between f k (m - k))
  unfolding reach
  reach_on k m l =
      let e : m ≡ k + (m - k) = omega (arith, l) in
      ap (λ (j : ℕ). after_execution t P inputs first (first_events f j)) e
      ∙ (ap (after_execution t P inputs first) (first_more f (m - k) k)
      ∙ after_execution-append t P inputs first (first_events f k) (between f k (m - k)))

  reach_step : (m : ℕ) → f m ≡ Step p → reach (suc m) ≡ step t P (reach m) p
  unfolding reach
  reach_step m e = after_execution-append t P inputs first (first_events f m) (f m ∷ [])
      ∙ ap (after_event t P inputs (after_execution t P inputs first (first_events f m))) e

  there : (m : ℕ) (x : Bool) → decision P (reach m) p ≡ Some x → Decides
  unfolding reach
  there m x e = (m, x, e)

  on : (c : Configuration L V) → EndsFor t n P inputs p c → (k : ℕ) → reach k ≡ c → Decides
  on c (Ending next) k e =
      let w = often k in
      let es : List Event = between f k (w.0 - k) in
      let at : reach w.0 ≡ after_execution t P inputs c es = reach_on k w.0 w.1
      ∙ ap (λ (d : Configuration L V). after_execution t P inputs d es) e in
      by_decision k (λ u.
      on (step t P (after_execution t P inputs c es) p)
      (next es (between_known n f known (w.0 - k) k) (between_never p f never (w.0 - k) k)
      (sym (ap (λ (d : Configuration L V). decision P d p) at) ∙ u))
      (suc w.0) (reach_step w.0 w.2 ∙ ap (λ (d : Configuration L V). step t P d p) at))
      (decision P (reach w.0) p) refl
    where
      by_decision : (k : ℕ) → (decision P (reach (often k).0) p ≡ None → Decides)
          → (o : Option Bool) → decision P (reach (often k).0) p ≡ o → Decides
      by_decision k rest None u = rest u
      by_decision k rest (Some x) u = there (often k).0 x u

  decides : EndsFor t n P inputs p first → Decides
  unfolding reach
  decides h = on first h 0 refl

pub decides_in_each : {L V : Type 0} (t : ℕ → TypeTable) (n : ℕ) (P : Protocol L V)
    → IsRecoverablyWaitFree t n P → DecidesInInfiniteExecutions t n P
decides_in_each {L = L} {V = V} t n P h inputs es k f known p l often never =
    let d = decides t n P inputs (after_execution t P inputs (initial P inputs) es) f known p often
    never (h inputs es k p l) in (
      d.0,
      d.1,
      ap (λ (c : Configuration L V). decision P c p)
          (after_execution-append t P inputs (initial P inputs) es (first_events f d.0)) ∙ d.2,
    )

-- ---- a process that may take steps for ever does so in some infinite execution

module _ {L V : Type 0} (t : ℕ → TypeTable) (n : ℕ) (P : Protocol L V) (inputs : ℕ
    → Bool) (p : ℕ) (l : p < n)
    (worse : (c : Configuration L V) → ¬ EndsFor t n P inputs p c → GoesOn t n P inputs p c) where
  -- the next event on the way to the next step of p
  next : (d : Configuration L V) → GoesOn t n P inputs p d
      → (e : Event) × (process_of e < n) × (e ≢ Crash p) × GoesOn t n P inputs p
      (after_event t P inputs d e)
  next d ([], h, never, none, bad) = (Step p, l, (λ e. absurd (cc e)), worse (step t P d p) bad)
  next d (e ∷ es, h, never, none, bad) = (e, h.0, never.0, (es, h.1, never.1, none, bad))

  at_step : (d : Configuration L V) (g : GoesOn t n P inputs p d) → g.0 ≡ []
      → ((next d g).0 ≡ Step p) × (decision P d p ≡ None)
  unfolding next
  at_step d ([], h, never, none, bad) e = (refl, none)
  at_step d (x ∷ es, h, never, none, bad) e = absurd (cc e)

  nearer : (d : Configuration L V) (g : GoesOn t n P inputs p d) (e : Event) (es : List Event)
      → g.0 ≡ e ∷ es → (next d g).3.0 ≡ es
  unfolding next
  nearer d ([], h, never, none, bad) e es f = absurd (cc f)
  nearer d (x ∷ xs, h, never, none, bad) e es f = cc f

  module _ (first : Configuration L V) (start : GoesOn t n P inputs p first) where
    states : ℕ → (d : Configuration L V) × GoesOn t n P inputs p d
    states zero = (first, start)
    states (suc k) = let s = states k in let r =
        next s.0 s.1 in (after_event t P inputs s.0 r.0, r.3)

    f : ℕ → Event
    f k = (next (states k).0 (states k).1).0

    f_known : (k : ℕ) → process_of (f k) < n
    unfolding f
    f_known k = (next (states k).0 (states k).1).1

    f_never : (k : ℕ) → f k ≢ Crash p
    unfolding f
    f_never k = (next (states k).0 (states k).1).2

    reached : (k : ℕ) → after_execution t P inputs first (first_events f k) ≡ (states k).0
    unfolding states f
    reached zero = refl
    reached (suc k) =
        after_execution-append t P inputs first (first_events f k) (f k ∷ [])
        ∙ ap (λ (d : Configuration L V). after_event t P inputs d (f k)) (reached k)

    steps_on : (es : List Event) (k : ℕ) → (states k).1.0 ≡ es
        → (m : ℕ) × (k ≤ m) × (f m ≡ Step p) × (decision P (states m).0 p ≡ None)
    unfolding states f
    steps_on [] k e = let a = at_step (states k).0 (states k).1 e in (k, omega arith, a.0, a.1)
    steps_on (x ∷ es) k e =
        let r = steps_on es (suc k) (nearer (states k).0 (states k).1 x es e) in
        (r.0, (let v = r.1 in omega (arith, v)), r.2, r.3)

    kept : (d : Configuration L V) (e : Event) (x : Bool) → e ≢ Crash p → decision P d p ≡ Some x
        → decision P (after_event t P inputs d e) p ≡ Some x
    kept d (Step q) x a h = stays_by_step t P p q d x h
    kept d (Crash q) x a h = ap (λ (k : L). decided_by (P.action p k))
        (put-other d.locals q (P.start q (inputs q)) p (λ e. a (ap Crash (sym e)))) ∙ h

    kept_long : (m k : ℕ) (x : Bool) → decision P (states k).0 p ≡ Some x
        → decision P (states (k + m)).0 p ≡ Some x
    unfolding states
    kept_long zero k x h = ap (λ (j : ℕ). decision P (states j).0 p) (let e : k + 0 ≡ k =
        omega arith in e) ∙ h
    kept_long (suc m) k x h =
        ap (λ (j : ℕ). decision P (states j).0 p) (let e : k + suc m ≡ suc k + m = omega arith in e)
        ∙ kept_long m (suc k) x (kept (states k).0 (next (states k).0 (states k).1).0 x
        (next (states k).0 (states k).1).2 h)

    never_decides : (k : ℕ) (x : Bool) → decision P
        (after_execution t P inputs first (first_events f k)) p ≡ Some x → ⊥
    never_decides k x h =
        let r = steps_on (states k).1.0 k refl in
        let there = kept_long (r.0 - k) k x (ap (λ (d : Configuration L V).
        decision P d p) (sym (reached k)) ∙ h) in
        let same : k + (r.0 - k) ≡ r.0 = (let v = r.1 in omega (arith, v)) in
        let late : decision P (states r.0).0 p ≡ Some x =
        ap (λ (j : ℕ). decision P (states j).0 p) (sym same) ∙ there in
        absurd (cc (r.3, late))

    f_often : StepsInfinitelyOften f p
    f_often k = let r = steps_on (states k).1.0 k refl in (r.0, r.1, r.2)

pub wait_free_classically : {L V : Type 0} (t : ℕ → TypeTable) (n : ℕ) (P : Protocol L V)
    → ExcludedMiddle t n P → DecidesInInfiniteExecutions t n P → IsRecoverablyWaitFree t n P
wait_free_classically {L = L} {V = V} t n P classical h inputs es k p l =
    elim (classical.ends inputs p (after_execution t P inputs (initial P inputs) es)) [
      | inl ends ↦ ends
      | inr bad ↦
          (let first : Configuration L V = after_execution t P inputs (initial P inputs) es in
          let start = worse first bad in
          let d = h inputs es k (f t n P inputs p l worse first start)
          (f_known t n P inputs p l worse first start) p l
          (f_often t n P inputs p l worse first start) (f_never t n P inputs p l worse first start)
          in
          absurd (never_decides t n P inputs p l worse first start d.0 d.1
          (ap (λ (c : Configuration L V). decision P c p)
          (sym (after_execution-append t P inputs (initial P inputs) es
          (first_events (f t n P inputs p l worse first start) d.0))) ∙ d.2)))
    ]
  where
    worse : (c : Configuration L V) → ¬ EndsFor t n P inputs p c → GoesOn t n P inputs p c
    worse c bad = elim (classical.goes_on inputs p c) [
      | inl g ↦ g
      | inr none ↦ absurd (bad (Ending (λ us m never undecided.
          elim (classical.ends inputs p (step t P (after_execution t P inputs c us) p))
          [ inl ends ↦ ends | inr worst ↦ absurd (none (us, m, never, undecided, worst)) ])))
    ]
