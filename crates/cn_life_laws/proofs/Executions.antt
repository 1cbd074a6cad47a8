-- Schedules of lives and executions of the model.
use Rattle.std.proofs.Common.{◌≡◌, ℕ, List, [], ◌∷◌, ◌++◌, refl, ap}
use Rattle.cn_agree.specs.Consensus.{IsSchedule}
use Rattle.cn_crashes.specs.Execution.{Event as ModelEvent, IsExecution}
use Rattle.cn_crashes.specs.Execution.Event.{Step as StepEvent, Crash as CrashEvent}
use Rattle.cn_lives.specs.Schedules.{named}
use Rattle.cn_lives.specs.declared.schedule.Event.{Event}
use Rattle.cn_lives.specs.declared.schedule.Event.TheVariants.{Step, Crash}
use Rattle.cn_life_laws.specs.Executions.{event_of, execution_of}

pub execution : (n : ℕ) (es : List Event) → IsSchedule n (named es) → IsExecution n (execution_of es)
execution n [] k = tt
execution n (Step q ∷ es) k = (k.0, execution n es k.1)
execution n (Crash q ∷ es) k = (k.0, execution n es k.1)

-- the schedule of an execution
pub schedule : (n : ℕ) (es : List ModelEvent) → IsExecution n es
    → (s : List Event) × (execution_of s ≡ es) × IsSchedule n (named s)
schedule n [] k = ([], refl, tt)
schedule n (StepEvent q ∷ es) k =
    let s = schedule n es k.1 in
    (Step q ∷ s.0, ap (λ (us : List ModelEvent). StepEvent q ∷ us) s.1, (k.0, s.2))
schedule n (CrashEvent q ∷ es) k =
    let s = schedule n es k.1 in
    (Crash q ∷ s.0, ap (λ (us : List ModelEvent). CrashEvent q ∷ us) s.1, (k.0, s.2))

pub execution_of-append : (es us : List Event)
    → execution_of (es ++ us) ≡ execution_of es ++ execution_of us
execution_of-append [] us = refl
execution_of-append (e ∷ es) us =
    ap (λ (xs : List ModelEvent). event_of e ∷ xs) (execution_of-append es us)

-- the two parts of a schedule
pub schedule_parts : (n : ℕ) (es us : List Event) → IsSchedule n (named (es ++ us))
    → IsSchedule n (named es) × IsSchedule n (named us)
schedule_parts n [] us k = (tt, k)
schedule_parts n (e ∷ es) us k = let r = schedule_parts n es us k.1 in ((k.0, r.0), r.1)
