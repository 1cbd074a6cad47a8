-- One process alone decides its own input, also after crashes.
use Rattle.std.proofs.Common.{◌≡◌, ℕ, ◌<◌, inl, inr, List, [], ◌∷◌, ◌++◌, length, refl, sym, ap}
use Rattle.std.proofs.Common.{◌∙◌, arith, subst, Bool, Option, None}
use Rattle.std.proofs.lemmas.Bool.{cases_eq}
use Rattle.cn_table.specs.TypeTable.{TypeTable}
use Rattle.cn_consensus.specs.Configuration.{Configuration, decided_by, initial, perform, put}
use Rattle.cn_consensus.specs.Protocol.{Action, IsActionOf, Protocol}
use Rattle.cn_consensus.specs.Protocol.Action.{Decide}
use Rattle.cn_consensus.specs.Types.{all_of}
use Rattle.cn_consensus.proofs.Alike.{put-other, put-same}
use Rattle.cn_crashes.specs.Execution.{Event, HasDecidedIn, after_execution}
use Rattle.cn_crashes.specs.Execution.Event.{Step, Crash}
use Rattle.cn_crashes.specs.RecoverableConsensusNumber.{SolvesRecoverableConsensus}
use Rattle.cn_crashes.specs.RecoverableRound.{RecoverableLocal}
use Rattle.cn_crashes.specs.RecoverableRound.RecoverableLocal.{Active, Decided}
use Rattle.cn_crashes.specs.RecoverableWaitFreedom.{IsBoundedRecoverablyWaitFree}
use Rattle.cn_crashes.proofs.Bounds.{endless}

-- each process starts with the decision for its input
abbrev own_action : RecoverableLocal → Action RecoverableLocal (Option Bool)
own_action (Active i x stage) = Decide x
own_action (Decided x) = Decide x

abbrev own_input : Protocol RecoverableLocal (Option Bool)
own_input = record {
  start = λ p x. Decided x;
  action = λ p l. own_action l;
  registers = λ i. None;
  objects = λ i. 0;
}

module _ (t : TypeTable) (inputs : ℕ → Bool) where
  abbrev World : Type 0
  World = Configuration RecoverableLocal (Option Bool)

  -- each process decides its input
  abbrev AllOwn : World → Type 0
  AllOwn c = (p : ℕ) → c.locals p ≡ Decided (inputs p)

  stepped_own : (c : World) (p : ℕ) → AllOwn c → AllOwn (after_execution (all_of t) own_input inputs
      c (Step p ∷ []))
  stepped_own c p h q = by_local (c.locals p)
    where
      by_local : (l : RecoverableLocal)
          → (perform (all_of t) c p (own_action l)).locals q ≡ Decided (inputs q)
      by_local (Active i x stage) = h q
      by_local (Decided x) = h q

  crashed_own : (c : World) (p : ℕ) → AllOwn c → AllOwn (after_execution (all_of t) own_input inputs
      c (Crash p ∷ []))
  crashed_own c p h q = elim (cases_eq q p) [
    | inl e ↦ subst (λ (r : ℕ). put c.locals p (Decided (inputs p)) r ≡ Decided (inputs r)) (sym e)
        (put-same c.locals p (Decided (inputs p)))
    | inr d ↦ put-other c.locals p (Decided (inputs p)) q d ∙ h q
  ]

  own_after : (es : List Event) (c : World) → AllOwn c
      → AllOwn (after_execution (all_of t) own_input inputs c es)
  own_after [] c h = h
  own_after (Step p ∷ es) c h = own_after es
      (after_execution (all_of t) own_input inputs c (Step p ∷ [])) (stepped_own c p h)
  own_after (Crash p ∷ es) c h = own_after es
      (after_execution (all_of t) own_input inputs c (Crash p ∷ [])) (crashed_own c p h)

  decides_own : (es : List Event) (p : ℕ) → HasDecidedIn (all_of t) own_input inputs es p (inputs p)
  decides_own es p =
      ap (λ (l : RecoverableLocal). decided_by (own_action l))
      (own_after es (initial own_input inputs) (λ q. refl) p)

  decided_own : (es : List Event) (p : ℕ) (x : Bool)
      → HasDecidedIn (all_of t) own_input inputs es p x → inputs p ≡ x
  decided_own es p x e = let f = decides_own es p in cc (e, f)

pub alone_solves : (t : TypeTable) → 0 < length t.states → SolvesRecoverableConsensus t 1
alone_solves t some = (
  own_input,
  record { states_known = λ i. some; operations_known = λ p l k. known l },
  record {
    agreement = λ inputs es us k m p q x y lp lq d e.
        (let zero_p : p ≡ 0 = omega (arith, lp) in
        let zero_q : q ≡ 0 = omega (arith, lq) in
        sym (decided_own t inputs es p x d)
        ∙ (ap inputs (zero_p ∙ sym zero_q) ∙ decided_own t inputs (es ++ us) q y e));
    validity = λ inputs es k p x lp d. (p, lp, decided_own t inputs es p x d);
    wait_freedom = endless (all_of t) 1 own_input bounded;
  },
  λ inputs es us k m p lp never often. (inputs p, decides_own t inputs (es ++ us) p),
)
  where
    known : (l : RecoverableLocal) → IsActionOf (all_of t) (own_action l)
    known (Active i x stage) = tt
    known (Decided x) = tt

    bounded : IsBoundedRecoverablyWaitFree (all_of t) 1 own_input
    bounded = λ inputs. (
      0,
      λ es us k m p lp never often.
          (inputs p, decides_own t inputs (es ++ us) p),
    )
