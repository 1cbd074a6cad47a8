-- A protocol for recoverable consensus solves consensus: no run with no crash goes on for ever.
use Rattle.std.proofs.Common.{◌≡◌, ℕ, zero, suc, ◌+◌, ◌<◌, ◌≤◌, inl, inr, List, [], ◌∷◌, ◌++◌, refl, sym, ap, ◌∙◌, subst, arith, Bool, None}
use Rattle.std.proofs.lemmas.Bool.{cases_eq, cases_lt}
use Rattle.cn_table.specs.TypeTable.{TypeTable}
use Rattle.cn_consensus.specs.Configuration.{Configuration, after, decision, initial, step}
use Rattle.cn_consensus.specs.Consensus.{HasAgreement, HasDecided, HasValidity, IsBoundedWaitFree, IsConsensusProtocol, IsSchedule}
use Rattle.cn_consensus.specs.Protocol.{Protocol}
use Rattle.cn_consensus.specs.WaitFreedom.{Ends, EveryRunEnds}
use Rattle.cn_consensus.specs.WaitFreedom.Ends.{Ending as RunEnding}
use Rattle.cn_consensus.proofs.Alike.{after-append}
use Rattle.cn_consensus.proofs.Counting.{schedule-append}
use Rattle.cn_crashes.specs.Execution.{Event, HasDecidedIn, after_execution}
use Rattle.cn_crashes.specs.RecoverableConsensus.{HasRecoverableAgreement, HasRecoverableValidity, IsRecoverableConsensusProtocol}
use Rattle.cn_crashes.specs.RecoverableWaitFreedom.{EndsFor, IsRecoverablyWaitFree}
use Rattle.cn_crashes.specs.RecoverableWaitFreedom.EndsFor.{Ending}
use Rattle.cn_crashes.proofs.CrashFreeExecutions.{after_steps, no_crash, steps, steps_execution}
use Rattle.cn_crashes.proofs.Executions.{append-none}

module _ {L V : Type 0} (t : ℕ → TypeTable) (n : ℕ) (P : Protocol L V) (inputs : ℕ → Bool) where
  -- steps lead to the configuration
  abbrev IsReached : Configuration L V → Type 0
  IsReached c = (s : List ℕ) × IsSchedule n s × (after t P (initial P inputs) s ≡ c)

  reached_more : (c : Configuration L V) (s : List ℕ) → IsSchedule n s → IsReached c → IsReached (after t P c s)
  reached_more c s h r = (
    r.0 ++ s,
    schedule-append n r.0 s r.1 h,
    after-append t P (initial P inputs) r.0 s ∙ ap (λ (d : Configuration L V). after t P d s) r.2,
  )

  -- no run from here goes on for ever with steps of undecided processes from i on
  data EndsFrom (i : ℕ) : Configuration L V → Type 0 where
    EndFrom : {c : Configuration L V} → ((k : ℕ) → i ≤ k → k < n → decision P c k ≡ None → EndsFrom i (step t P c k)) → EndsFrom i c

  -- where runs of the processes behind i end, and any with a step of i does, so do runs with i
  with_one : (i : ℕ) (c : Configuration L V) → ((s : List ℕ) → IsSchedule n s → decision P (after t P c s) i ≡ None → EndsFrom i (step t P (after t P c s) i))
      → (d : Configuration L V) (s : List ℕ) → IsSchedule n s → after t P c s ≡ d → EndsFrom (suc i) d → EndsFrom i d
  with_one i c child d s h e (EndFrom next) = EndFrom {c = d} (λ k l u none. elim (cases_eq k i) [
    | inl same ↦
        subst (λ (x : Configuration L V). EndsFrom i x) (ap (λ (x : Configuration L V). step t P x i) e ∙ ap (step t P d) (sym same))
        (child s h (ap (λ (x : Configuration L V). decision P x i) e ∙ (ap (decision P d) (sym same) ∙ none)))
    | inr apart ↦
        with_one i c child (step t P d k) (s ++ k ∷ []) (schedule-append n s (k ∷ []) h (u, tt))
        (after-append t P c s (k ∷ []) ∙ ap (λ (x : Configuration L V). step t P x k) e) (next k (omega (arith, l, apart)) u none)
  ])

  with_process : (i : ℕ) → i < n → ((c : Configuration L V) → IsReached c → EndsFrom (suc i) c) → (c : Configuration L V) → IsReached c → EndsFor t n P inputs i c → EndsFrom i c
  with_process i l below c r (Ending next) = with_one i c (λ s h none.
      let same : after_execution t P inputs c (steps s) ≡ after t P c s = after_steps t P inputs c s in
      let led : step t P (after_execution t P inputs c (steps s)) i ≡ step t P (after t P c s) i = ap (λ (x : Configuration L V). step t P x i) same in
      subst (EndsFrom i) led
      (with_process i l below (step t P (after_execution t P inputs c (steps s)) i)
      (subst IsReached (sym led) (reached_more (after t P c s) (i ∷ []) (l, tt) (reached_more c s h r)))
      (next (steps s) (steps_execution n s h) (no_crash i s) (ap (λ (x : Configuration L V). decision P x i) same ∙ none)))) c [] tt refl (below c r)

  module _ (endless : (c : Configuration L V) → IsReached c → (p : ℕ) → p < n → EndsFor t n P inputs p c) where
    from : (d i : ℕ) → n ≤ i + d → (c : Configuration L V) → IsReached c → EndsFrom i c
    from zero i l c r = EndFrom (λ k u v none. absurd (omega (arith, l, u, v)))
    from (suc d) i l c r = elim (cases_lt i n) [
      | inl less ↦ with_process i less (from d (suc i) (omega (arith, l))) c r (endless c r i less)
      | inr past ↦ EndFrom (λ k u v none. absurd (omega (arith, past, u, v)))
    ]

    to_ends : (c : Configuration L V) → EndsFrom 0 c → Ends t n P c
    to_ends c (EndFrom next) = RunEnding (λ p l none. to_ends (step t P c p) (next p (omega arith) l none))

    ends : Ends t n P (initial P inputs)
    ends = to_ends (initial P inputs) (from n 0 (omega arith) (initial P inputs) ([], tt, refl))

  endless_at : IsRecoverablyWaitFree t n P → (c : Configuration L V) → IsReached c → (p : ℕ) → p < n → EndsFor t n P inputs p c
  endless_at w c r p l = subst (EndsFor t n P inputs p) (after_steps t P inputs (initial P inputs) r.0 ∙ r.2) (w inputs (steps r.0) (steps_execution n r.0 r.1) p l)

  pub run_ends : IsRecoverablyWaitFree t n P → Ends t n P (initial P inputs)
  run_ends w = ends (endless_at w)

  pub decided_there : (s : List ℕ) (p : ℕ) (x : Bool) → HasDecided t P inputs s p x → HasDecidedIn t P inputs (steps s) p x
  decided_there s p x e = ap (λ (d : Configuration L V). decision P d p) (after_steps t P inputs (initial P inputs) s) ∙ e

module _ {L V : Type 0} (t : ℕ → TypeTable) (n : ℕ) (P : Protocol L V) where
  pub every_run_ends : IsRecoverablyWaitFree t n P → EveryRunEnds t n P
  every_run_ends w inputs = run_ends t n P inputs w

  agrees : HasRecoverableAgreement t n P → HasAgreement t n P
  agrees agreement inputs s h p q x y lp lq d e =
      agreement inputs (steps s) [] (steps_execution n s h) tt p q x y lp lq (decided_there t n P inputs s p x d)
      (subst (λ (es : List Event). HasDecidedIn t P inputs es q y) (sym (append-none (steps s))) (decided_there t n P inputs s q y e))

  valid : HasRecoverableValidity t n P → HasValidity t n P
  valid validity inputs s h p x l d = validity inputs (steps s) (steps_execution n s h) p x l (decided_there t n P inputs s p x d)

  pub is_consensus : (EveryRunEnds t n P → IsBoundedWaitFree t n P) → IsRecoverableConsensusProtocol t n P → IsConsensusProtocol t n P
  is_consensus bounded r = record {
    agreement = agrees r.agreement;
    validity = valid r.validity;
    wait_freedom = bounded (every_run_ends r.wait_freedom);
  }
