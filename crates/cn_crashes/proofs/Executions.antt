-- Two executions, one after the other.
use Rattle.std.proofs.Common.{◌≡◌, ℕ, ◌+◌, List, [], ◌∷◌, ◌++◌, refl, ap, arith, Bool}
use Rattle.cn_table.specs.TypeTable.{TypeTable}
use Rattle.cn_consensus.specs.Protocol.{Protocol}
use Rattle.cn_consensus.specs.Configuration.{Configuration}
use Rattle.cn_crashes.specs.Execution.{Event, IsExecution, NeverCrashes, after_execution}
use Rattle.cn_crashes.specs.Execution.{after_event, steps_of}
use Rattle.cn_crashes.specs.Execution.Event.{Step, Crash}

pub append-none : {X : Type 0} (xs : List X) → xs ++ [] ≡ xs
append-none [] = refl
append-none (x ∷ xs) = ap (λ l. x ∷ l) (append-none xs)

pub append-assoc : {X : Type 0} (xs ys zs : List X) → (xs ++ ys) ++ zs ≡ xs ++ (ys ++ zs)
append-assoc [] ys zs = refl
append-assoc (x ∷ xs) ys zs = ap (λ l. x ∷ l) (append-assoc xs ys zs)

pub execution-append : (n : ℕ) (es us : List Event) → IsExecution n es → IsExecution n us
    → IsExecution n (es ++ us)
execution-append n [] us h k = k
execution-append n (e ∷ es) us h k = (h.0, execution-append n es us h.1 k)

pub never-append : (p : ℕ) (es us : List Event) → NeverCrashes p es → NeverCrashes p us
    → NeverCrashes p (es ++ us)
never-append p [] us h k = k
never-append p (e ∷ es) us h k = (h.0, never-append p es us h.1 k)

pub steps_of-append : (p : ℕ) (es us : List Event)
    → steps_of p (es ++ us) ≡ steps_of p es + steps_of p us
steps_of-append p [] us = omega arith
steps_of-append p (Step q ∷ es) us = omega (arith, steps_of-append p es us)
steps_of-append p (Crash q ∷ es) us = steps_of-append p es us

pub after_execution-append : {L V : Type 0} (t : ℕ → TypeTable) (P : Protocol L V) (inputs : ℕ
    → Bool) (c : Configuration L V) (es us : List Event)
    → after_execution t P inputs c (es ++ us) ≡ after_execution t P inputs
    (after_execution t P inputs c es) us
after_execution-append t P inputs c [] us = refl
after_execution-append t P inputs c (e ∷ es) us = after_execution-append t P inputs
    (after_event t P inputs c e) es us
