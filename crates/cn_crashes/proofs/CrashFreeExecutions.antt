-- Executions with no crash are schedules.
use Rattle.std.proofs.Common.{◌≡◌, ℕ, List, [], ◌∷◌, refl, sym, ap, ◌∙◌, subst, arith, Bool}
use Rattle.cn_table.specs.TypeTable.{TypeTable}
use Rattle.cn_consensus.specs.Protocol.{Protocol}
use Rattle.cn_consensus.specs.Configuration.{Configuration, after, decision, initial, step}
use Rattle.cn_consensus.specs.Consensus.{HasDecided, IsConsensusProtocol, IsSchedule, occurrences}
use Rattle.cn_consensus.proofs.Counting.{occurrences-cons}
use Rattle.cn_crashes.specs.Execution.{Event, HasDecidedIn, IsExecution, NeverCrashes}
use Rattle.cn_crashes.specs.Execution.{after_execution, steps_of}
use Rattle.cn_crashes.specs.Execution.Event.{Step}
use Rattle.cn_crashes.proofs.Executions.{append-none}
use Rattle.cn_crashes.specs.RecoverableConsensus.{HasRecoverableAgreement, HasRecoverableValidity}
use Rattle.cn_crashes.specs.RecoverableWaitFreedom.{IsBoundedRecoverablyWaitFree}

-- the steps of a schedule
abbrev pub steps : List ℕ → List Event
steps [] = []
steps (p ∷ s) = Step p ∷ steps s

pub steps_execution : (n : ℕ) (s : List ℕ) → IsSchedule n s → IsExecution n (steps s)
steps_execution n [] h = tt
steps_execution n (p ∷ s) h = (h.0, steps_execution n s h.1)

pub no_crash : (p : ℕ) (s : List ℕ) → NeverCrashes p (steps s)
no_crash p [] = tt
no_crash p (q ∷ s) = (λ e. absurd (cc e), no_crash p s)

pub steps_counted : (p : ℕ) (s : List ℕ) → steps_of p (steps s) ≡ occurrences s p
steps_counted p [] = refl
steps_counted p (q ∷ s) = omega (arith, steps_counted p s, occurrences-cons q s p)

module _ {L V : Type 0} (t : ℕ → TypeTable) (P : Protocol L V) (inputs : ℕ → Bool) where
  pub after_steps : (c : Configuration L V) (s : List ℕ)
      → after_execution t P inputs c (steps s) ≡ after t P c s
  after_steps c [] = refl
  after_steps c (p ∷ s) = after_steps (step t P c p) s

  there : (s : List ℕ) (p : ℕ) (x : Bool) → HasDecided t P inputs s p x
      → HasDecidedIn t P inputs (steps s) p x
  there s p x e = ap (λ (d : Configuration L V). decision P d p) (after_steps (initial P inputs) s)
      ∙ e

  back : (s : List ℕ) (p : ℕ) (x : Bool) → HasDecidedIn t P inputs (steps s) p x
      → HasDecided t P inputs s p x
  back s p x e = ap (λ (d : Configuration L V).
      decision P d p) (sym (after_steps (initial P inputs) s)) ∙ e

pub is_consensus : {L V : Type 0} (t : ℕ → TypeTable) (n : ℕ) (P : Protocol L V)
    → HasRecoverableAgreement t n P → HasRecoverableValidity t n P
    → IsBoundedRecoverablyWaitFree t n P → IsConsensusProtocol t n P
is_consensus t n P agreement validity bounded = record {
  agreement = λ inputs s h p q x y lp lq d e.
      agreement inputs (steps s) [] (steps_execution n s h) tt p q x y lp lq
      (there t P inputs s p x d)
      (subst (λ (es : List Event). HasDecidedIn t P inputs es q y) (sym (append-none (steps s)))
      (there t P inputs s q y e));
  validity = λ inputs s h p x l d. validity inputs (steps s) (steps_execution n s h) p x l
      (there t P inputs s p x d);
  wait_freedom = λ inputs.
      (let w = bounded inputs in (
        w.0,
        λ s h p l often.
            (let r = w.1 [] (steps s) tt (steps_execution n s h) p l (no_crash p s) (omega (
              arith,
              often,
              steps_counted p s,
            )) in
            (r.0, back t P inputs s p r.0 r.1)),
      ));
}
