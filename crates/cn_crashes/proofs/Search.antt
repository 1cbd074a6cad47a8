-- The search for a recording witness: a type with a recoverable consensus protocol for n processes
-- is n-recording.
use Rattle.std.proofs.Common.{◌≡◌, ◌≢◌, ℕ, ◌<◌, ◌≤◌, ◌⊎◌, inl, inr, List, [], ◌∷◌, length, refl}
use Rattle.std.proofs.Common.{sym, ap, ◌∙◌, subst, arith, Bool, true, false, cond, nat_eq, Option}
use Rattle.std.proofs.Common.{Some, None, replicate, true≢false}
use Rattle.std.proofs.lemmas.Bool.{cases_Bool, cases_eq, cases_lt}
use Rattle.cn_table.specs.TypeTable.{IsClosed, TypeTable}
use Rattle.cn_consensus.specs.Protocol.{IsProtocolOf, Protocol}
use Rattle.cn_consensus.specs.Types.{all_of}
use Rattle.cn_consensus.specs.Configuration.{Configuration, after, decision, initial, step}
use Rattle.cn_consensus.proofs.Alike.{Alike, alike_alone, alike_decided, put-other}
use Rattle.cn_consensus.proofs.FirstConfiguration.{states_performed}
use Rattle.cn_consensus.proofs.Counting.{first_or_all, schedule-alone}
use Rattle.cn_recover.specs.Recording.{IsRecording}
use Rattle.cn_crashes.specs.Execution.{Event, IsExecution, after_execution, after_crash}
use Rattle.cn_crashes.specs.Execution.Event.{Step, Crash}
use Rattle.cn_crashes.specs.RecoverableConsensus.{HasRecoverableAgreement, HasRecoverableValidity}
use Rattle.cn_crashes.specs.RecoverableConsensus.{IsRecoverableConsensusProtocol}
use Rattle.cn_crashes.specs.RecoverableWaitFreedom.{EndsFor}
use Rattle.cn_crashes.proofs.CrashFreeExecutions.{after_steps, steps, steps_execution}
use Rattle.cn_crashes.proofs.CriticalCases.{critical_result}
use Rattle.cn_crashes.proofs.CriticalStates.{Found, Result}
use Rattle.cn_crashes.proofs.LexicographicDescent.{Ends, Moves, crash_moves, ends, finishes_at}
use Rattle.cn_crashes.proofs.LexicographicDescent.{runs_at, step_moves}
use Rattle.cn_crashes.proofs.LexicographicDescent.Ends.{End}
use Rattle.cn_crashes.proofs.SureValues.{Budget, Runs, Sure, allowed_execution, grant, runs_alike}
use Rattle.cn_crashes.proofs.SureValues.{spend, sure_alone, sure_from, sure_valent}
use Rattle.cn_crashes.proofs.SureValues.Runs.{Done, Next}
use Rattle.cn_crashes.proofs.SearchStates.{State, config, config_more, crash_to, step_to}

module _ {L V : Type 0} (t : ℕ → TypeTable) (closed : (i : ℕ)
    → IsClosed (t i)) (n : ℕ) (P : Protocol L V) (known : IsProtocolOf t n P) (two : 2 ≤ n)
    (agreement : HasRecoverableAgreement t n P) (validity : HasRecoverableValidity t n P)
    (inputs : ℕ → Bool) (endless : (es : List Event) → IsExecution n es → (p : ℕ) → p < n
    → EndsFor t n P inputs p (config t n P inputs es)) where
  abbrev Goal : State t n P inputs → Type 0
  Goal s = Result t n P known two inputs endless s

  abbrev Recorded : Type 0
  Recorded = Found t n P known two inputs endless

  states_from : (es : List Event) (c : Configuration L V) → IsExecution n es
      → ((i : ℕ) → c.objects i < length (t i).states) → (i : ℕ)
      → (after_execution t P inputs c es).objects i < length (t i).states
  states_from [] c h k = k
  states_from (Step p ∷ es) c h k = states_from es (step t P c p) h.1
      (states_performed t closed p c (P.action p (c.locals p))
      (known.operations_known p (c.locals p) h.0) k)
  states_from (Crash p ∷ es) c h k = states_from es (after_crash P inputs c p) h.1 k

  -- where a process has decided, its value is sure
  sure_decided : (s : State t n P inputs) (p : ℕ) → p < n → (x : Bool)
      → decision P (config t n P inputs s.events) p ≡ Some x
      → Sure t n P inputs x (config t n P inputs s.events) s.budget
  unfolding Sure
  sure_decided s p l x e = λ es a q y m f.
      sym (agreement inputs s.events es s.execution
      (allowed_execution t n P inputs es (config t n P inputs s.events) s.budget a) p q x y l m
      e
      (ap (λ (d : Configuration L V). decision P d q) (config_more t n P inputs s.events es) ∙ f))

  module _ (s : State t n P inputs) (onward : (r : State t n P inputs) (k : ℕ) → k < n
      → Moves t n P inputs k s r → Goal r) where
    abbrev c : Configuration L V
    c = config t n P inputs s.events

    abbrev b : Budget
    b = s.budget

    module _ (none : (p : ℕ) → p < n → decision P (config t n P inputs s.events) p ≡ None) where
      step_sure_or_found : (p : ℕ) → p < n → ((x : Bool) × Sure t n P inputs x (step t P c p)
          (grant b p))
          ⊎ Recorded
      unfolding step_to
      step_sure_or_found p l =
          elim (onward (step_to t n P inputs s p l (none p l)) p l
          (step_moves t n P inputs s p l (none p l))) [
            | inl h ↦ inl (
              h.0,
              subst (λ (d : Configuration L V).
                  Sure t n P inputs h.0 d (grant b p))
                  (config_more t n P inputs s.events (Step p ∷ [])) h.1,
            )
            | inr found ↦ inr found
          ]

      abbrev CrashSure : ℕ → Type 0
      CrashSure p = 1 ≤ b p → (x : Bool) × Sure t n P inputs x (after_crash P inputs c p)
          (spend b p)

      crash_sure_or_found : (p : ℕ) → p < n → CrashSure p ⊎ Recorded
      unfolding crash_to
      crash_sure_or_found p l = elim (cases_lt (b p) 1) [
        | inl few ↦ inl (λ some. absurd (omega (arith, few, some)))
        | inr some ↦ elim (onward (crash_to t n P inputs s p l some) p l
            (crash_moves t n P inputs s p l some)) [
              | inl h ↦ inl (λ u. (
                h.0,
                subst (λ (d : Configuration L V).
                    Sure t n P inputs h.0 d (spend b p))
                    (config_more t n P inputs s.events (Crash p ∷ [])) h.1,
              ))
              | inr found ↦ inr found
            ]
      ]

      module _ (each : (p : ℕ) → p < n → (x : Bool) × Sure t n P inputs x
          (step t P (config t n P inputs s.events) p) (grant s.budget p))
          (crashes : (p : ℕ) → p < n → 1 ≤ s.budget p
          → (x : Bool) × Sure t n P inputs x
          (after_crash P inputs (config t n P inputs s.events) p) (spend s.budget p)) where
        packed : (p : ℕ) → (x : Bool) × (p < n → Sure t n P inputs x (step t P c p) (grant b p))
        packed p = elim (cases_lt p n) [
          | inl l ↦ (
            (each p l).0,
            λ m. (each p l).1,
          )
          | inr g ↦ (false, λ m. absurd (omega (arith, g, m)))
        ]

        module _ (x : Bool) (all : (p : ℕ) → p < n → (packed p).0 ≡ x) where
          step_sure : (p : ℕ) → p < n → Sure t n P inputs x (step t P c p) (grant b p)
          step_sure p l = subst (λ (y : Bool).
              Sure t n P inputs y (step t P c p) (grant b p)) (all p l) ((packed p).1 l)

          -- another process does not see the crash
          crash_value : (p q : ℕ) → p < n → q < n → q ≢ p → (y : Bool)
              → Sure t n P inputs y (after_crash P inputs c p) (spend b p) → y ≡ x
          crash_value p q lp lq d y h =
              let r = runs_at t n P inputs endless s.events s.execution q lq in
              let a : Alike q c (after_crash P inputs c p) =
              record {
                local = sym (put-other c.locals p (P.start p (inputs p)) q d);
                registers
                    = λ i. refl;
                objects = λ i. refl;
              } in
              sym (sure_alone t n P inputs y r.0 q (after_crash P inputs c p) (spend b p) lq
              (runs_alike t n P inputs r.0 q c (after_crash P inputs c p) a r.1) h)
              ∙ by_run q lq r.0 c refl r.1
            where
              by_run : (q : ℕ) → q < n → (z : Bool) (d : Configuration L V) → d ≡ c
                  → Runs t n P inputs q z d → z ≡ x
              by_run q lq z d e (Done f) = absurd (let g : decision P d q ≡ None =
                  ap (λ (k : Configuration L V). decision P k q) e ∙ none q lq in cc (f, g))
              by_run q lq z d e (Next u k) =
                  sure_alone t n P inputs x z q (step t P c q) (grant b q) lq
                  (subst (λ (m : Configuration L V).
                  Runs t n P inputs q z (step t P m q)) e k) (step_sure q lq)

          crash_sure : (p : ℕ) → p < n → 1 ≤ b p
              → Sure t n P inputs x (after_crash P inputs c p) (spend b p)
          crash_sure p l some =
              let r = crashes p l some in
              let e : r.0 ≡ x = elim (cases_eq p 0) [
                | inl z ↦ crash_value p 1 l (omega (arith, two)) (λ e.
                    absurd (omega (arith, z, e))) r.0 r.1
                | inr d ↦ crash_value p 0 l (omega (arith, two)) (λ e. d (sym e)) r.0 r.1
              ] in
              subst (λ (y : Bool). Sure t n P inputs y (after_crash P inputs c p) (spend b p)) e r.1

          all_sure : Goal s
          all_sure = inl (x, sure_from t n P inputs x c b none step_sure crash_sure)

        by_value : (x y : Bool) → ((z : Bool) → (z ≡ x) ⊎ (z ≡ y))
            → ((p : ℕ) → p < n → (packed p).0 ≡ x) ⊎ ((p : ℕ) × (p < n) × ((packed p).0 ≡ y))
        by_value x y cases =
            first_or_all n (λ p. (packed p).0 ≡ x) ((p : ℕ) × (p < n) × ((packed p).0 ≡ y))
            (λ p l. elim (cases (packed p).0) [ inl e ↦ inl e | inr e ↦ inr (p, l, e) ])

        swapped : (z : Bool) → (z ≡ false) ⊎ (z ≡ true)
        swapped z = elim (cases_Bool z) [ inl e ↦ inr e | inr e ↦ inl e ]

        by_values : Goal s
        by_values = elim (by_value false true swapped) [
          | inl all ↦ all_sure false all
          | inr high ↦ elim (by_value true false cases_Bool) [
            | inl all ↦ all_sure true all
            | inr low ↦ critical_result t n P known two inputs endless s
                (record {
                  undecided = none;
                  value = λ p. (packed p).0;
                  sure_at = λ p l. (packed p).1 l;
                  states_known = states_from s.events (initial P inputs) s.execution
                      known.states_known;
                  low = low.0;
                  low_known = low.1;
                  low_is = low.2;
                  high = high.0;
                  high_known = high.1;
                  high_is = high.2;
                })
                onward
          ]
        ]

      undecided : Goal s
      undecided = elim (first_or_all n (λ p. (x : Bool) × Sure t n P inputs x (step t P c p)
          (grant b p)) Recorded step_sure_or_found) [
            | inr found ↦ inr found
            | inl each ↦ elim (first_or_all n CrashSure Recorded crash_sure_or_found)
                [ inr found ↦ inr found | inl crashes ↦ by_values each crashes ]
          ]

    at_state : Goal s
    at_state = elim (first_or_all n (λ p. decision P c p ≡ None)
        ((p : ℕ) × (p < n) × (x : Bool) × (decision P c p ≡ Some x)) (λ p l.
        by_decision p l (decision P c p) refl)) [
          | inl none ↦ undecided none
          | inr d ↦ inl (d.2, sure_decided s d.0 d.1 d.2 d.3)
        ]
      where
        by_decision : (p : ℕ) → p < n → (o : Option Bool) → decision P c p ≡ o
            → (decision P c p ≡ None) ⊎ ((p : ℕ) × (p < n) × (x : Bool) × (decision P c p ≡ Some x))
        by_decision p l None e = inl e
        by_decision p l (Some x) e = inr (p, l, x, e)

  search : (s : State t n P inputs) → Ends t n P inputs 0 s → Goal s
  search s (End next) = at_state s (λ r k l mv. search r (next k (omega arith) l r mv))

  abbrev first_state : State t n P inputs
  first_state = record {
    events = [];
    execution = tt;
    budget = λ p. 0;
    level = n;
    shadow = λ l. absurd (omega (arith, l));
  }

  from_the_start : ((x : Bool) × Sure t n P inputs x (initial P inputs) (λ p. 0)) ⊎ Recorded
  from_the_start = search first_state (ends t n P inputs endless first_state)

  -- a process that runs alone decides its own input
  value_at : (v x : Bool) (p : ℕ) → p < n → inputs p ≡ x
      → Sure t n P inputs v (initial P inputs) (λ p. 0) → v ≡ x
  value_at v x p l e h =
      let same : ℕ → Bool = λ q. x in
      let f = finishes_at t n P inputs endless [] tt p l in
      let alone = replicate f.0 p in
      let known_alone = schedule-alone n p f.0 l in
      let first : f.1 ≡ v = sure_valent t n P inputs v (initial P inputs) (λ p.
      0) h alone known_alone p l f.1 f.2 in
      let alike : Alike p (initial P inputs) (initial P same) =
      record { local = ap (P.start p) e; registers = λ i. refl; objects = λ i. refl } in
      let there : decision P (after t P (initial P same) alone) p ≡ Some f.1 =
      sym (alike_decided t P p (after t P (initial P inputs) alone)
      (after t P (initial P same) alone) (alike_alone t P p f.0 (initial P inputs)
      (initial P same) alike)) ∙ f.2 in
      let valid = validity same (steps alone) (steps_execution n alone known_alone) p f.1 l
      (ap (λ (d : Configuration L V). decision P d p)
      (after_steps t P same (initial P same) alone) ∙ there) in
      sym first ∙ sym valid.2

-- process 0 has input false, all others have input true
abbrev two_inputs : ℕ → Bool
two_inputs p = cond (nat_eq p 0) false true

-- of the types of the objects, one is recording
pub some_records : {L V : Type 0} (t : ℕ → TypeTable) (n : ℕ) (P : Protocol L V)
    → ((i : ℕ) → IsClosed (t i)) → 2 ≤ n → IsProtocolOf t n P
    → IsRecoverableConsensusProtocol t n P → (i : ℕ) × IsRecording (t i) n
some_records t n P closed two known con =
    let w = con.wait_freedom two_inputs in
    elim (from_the_start t closed n P known two con.agreement con.validity two_inputs w) [
      | inr found ↦ found
      | inl u ↦ absurd (true≢false (sym (value_at t closed n P known two con.agreement con.validity
          two_inputs w u.0
          true 1 (omega (arith, two)) refl u.1)
          ∙ value_at t closed n P known two con.agreement con.validity two_inputs w u.0 false 0
          (omega (
            arith,
            two,
          )) refl u.1))
    ]

pub consensus_records : {L V : Type 0} (t : TypeTable) (n : ℕ) (P : Protocol L V) → IsClosed t
    → 2 ≤ n → IsProtocolOf (all_of t) n P → IsRecoverableConsensusProtocol (all_of t) n P
    → IsRecording t n
consensus_records t n P closed two known con = (some_records (all_of t) n P (λ i.
    closed) two known con).1
