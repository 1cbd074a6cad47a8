-- Recoverable wait-freedom with a bound is recoverable wait-freedom.
use Rattle.std.proofs.Common.{◌≡◌, ℕ, zero, suc, ◌+◌, ◌<◌, ◌≤◌, List, [], ◌∷◌, ◌++◌, refl, sym, ap}
use Rattle.std.proofs.Common.{◌∙◌, subst, arith, Bool, Some}
use Rattle.std.proofs.lemmas.Bool.{eq-eqb}
use Rattle.cn_table.specs.TypeTable.{TypeTable}
use Rattle.cn_consensus.specs.Protocol.{Protocol}
use Rattle.cn_consensus.specs.Configuration.{Configuration, decision, initial, step}
use Rattle.cn_consensus.proofs.Counting.{hit}
use Rattle.cn_crashes.specs.Execution.{Event, HasDecidedIn, IsExecution, NeverCrashes}
use Rattle.cn_crashes.specs.Execution.{after_execution, steps_of}
use Rattle.cn_crashes.specs.Execution.Event.{Step}
use Rattle.cn_crashes.specs.RecoverableWaitFreedom.{EndsFor, IsBoundedRecoverablyWaitFree}
use Rattle.cn_crashes.specs.RecoverableWaitFreedom.{IsRecoverablyWaitFree}
use Rattle.cn_crashes.specs.RecoverableWaitFreedom.EndsFor.{Ending}
use Rattle.cn_crashes.proofs.Executions.{after_execution-append, append-assoc, append-none}
use Rattle.cn_crashes.proofs.Executions.{execution-append, never-append, steps_of-append}

module _ {L V : Type 0} (t : ℕ → TypeTable) (n : ℕ) (P : Protocol L V) (inputs : ℕ
    → Bool) (bound : ℕ)
    (bounded : (es us : List Event) → IsExecution n es → IsExecution n us → (p : ℕ) → p < n
    → NeverCrashes p us → bound ≤ steps_of p us
    → (x : Bool) × HasDecidedIn t P inputs (es ++ us) p x) where
  reach : List Event → Configuration L V
  reach es = after_execution t P inputs (initial P inputs) es

  on_from : (before since es : List Event) → reach (before ++ (since ++ es)) ≡ after_execution t P
      inputs (reach (before ++ since)) es
  unfolding reach
  on_from before since es = ap (after_execution t P inputs (initial P inputs))
      (sym (append-assoc before since es)) ∙ after_execution-append t P inputs (initial P inputs)
      (before ++ since) es

  step_from : (before far : List Event) (p : ℕ)
      → reach (before ++ (far ++ Step p ∷ [])) ≡ step t P (reach (before ++ far)) p
  unfolding reach
  step_from before far p = on_from before far (Step p ∷ [])

  same : (before far : List Event) (p : ℕ) (x : Bool) → HasDecidedIn t P inputs (before ++ far) p x
      → decision P (reach (before ++ far)) p ≡ Some x
  unfolding reach
  same before far p x e = e

  -- a process that has taken steps since, has so many left
  ends_in : (fuel : ℕ) (before since : List Event) → IsExecution n before → IsExecution n since
      → (p : ℕ) → p < n → NeverCrashes p since → bound ≤ steps_of p since + fuel
      → EndsFor t n P inputs p (reach (before ++ since))
  ends_in zero before since h k p l never enough = Ending (λ es m nc none.
      absurd (let r = bounded before (since ++ es) h (execution-append n since es k m) p l
      (never-append p since es never nc) (let a =
      steps_of-append p since es in omega (arith, a, enough)) in
      let there = ap (λ (d : Configuration L V). decision P d p) (on_from before since es) in
      cc (none, there, same before (since ++ es) p r.0 r.1)))
  ends_in (suc fuel) before since h k p l never enough = Ending (λ es m nc none.
      (let far : List Event = since ++ es in
      let one : hit p p ≡ 1 = rw (eq-eqb p p refl) refl in
      let a = steps_of-append p since es in
      let b = steps_of-append p far (Step p ∷ []) in
      subst (EndsFor t n P inputs p) (step_from before far p
      ∙ ap (λ (d : Configuration L V). step t P d p) (on_from before since es))
      (ends_in fuel before (far ++ Step p ∷ []) h
      (execution-append n far (Step p ∷ []) (execution-append n since es k m) (l, tt)) p l
      (never-append p far (Step p ∷ []) (never-append p since es never nc) (
        λ e. absurd (cc e),
        tt,
      )) (omega (arith, one, a, b, enough)))))

  ends_at : (es : List Event) → IsExecution n es → (p : ℕ) → p < n
      → EndsFor t n P inputs p (after_execution t P inputs (initial P inputs) es)
  unfolding reach
  ends_at es h p l = subst (λ (z : List Event).
      EndsFor t n P inputs p (reach z)) (append-none es)
      (ends_in bound es [] h tt p l tt (omega arith))

pub endless : {L V : Type 0} (t : ℕ → TypeTable) (n : ℕ) (P : Protocol L V)
    → IsBoundedRecoverablyWaitFree t n P → IsRecoverablyWaitFree t n P
endless t n P bounded inputs es h p l = let w =
    bounded inputs in ends_at t n P inputs w.0 w.1 es h p l
