-- Recoverable rounds while an execution runs: they agree, and a process that does not crash
-- decides.
use Rattle.std.proofs.Common.{◌≡◌, ◌≢◌, ℕ, ◌*◌, ◌-◌, ◌<◌, ◌≤◌, inl, inr, List, [], ◌∷◌, ◌++◌, length}
use Rattle.std.proofs.Common.{refl, sym, ap, ◌∙◌, subst, arith, Bool, Some}
use Rattle.std.proofs.lemmas.Bool.{cases_eq, cases_lt, eq-eqb, ne_eqb}
use Rattle.std.proofs.lemmas.List.{get_or_past}
use Rattle.cn_table.specs.TypeTable.{TypeTable, transition}
use Rattle.cn_choice.specs.declared.team.Team.{Team}
use Rattle.cn_proto.specs.Protocol.{nowhere, place_of}
use Rattle.cn_proto.specs.Sound.{IsSound}
use Rattle.cn_proto.specs.declared.place.Place.{Place}
use Rattle.cn_consensus.specs.Protocol.{IsActionOf, IsProtocolOf}
use Rattle.cn_consensus.specs.Types.{all_of}
use Rattle.cn_consensus.specs.Configuration.{decided_by, decision, initial, perform, put, step}
use Rattle.cn_consensus.proofs.Alike.{others_stepped, put-same, put-other}
use Rattle.cn_consensus.proofs.Counting.{hit}
use Rattle.cn_crashes.specs.Execution.{Event, HasDecidedIn, IsExecution, NeverCrashes}
use Rattle.cn_crashes.specs.Execution.{after_event, after_crash, after_execution, process_of}
use Rattle.cn_crashes.specs.Execution.{steps_of}
use Rattle.cn_crashes.specs.Execution.Event.{Step, Crash}
use Rattle.cn_crashes.specs.RecoverableConsensus.{HasRecoverableAgreement, HasRecoverableValidity}
use Rattle.cn_crashes.specs.RecoverableConsensus.{IsRecoverableConsensusProtocol}
use Rattle.cn_crashes.specs.RecoverableConsensusNumber.{SolvesRecoverableConsensus}
use Rattle.cn_crashes.specs.RecoverableWaitFreedom.{DecidesWithin, IsBoundedRecoverablyWaitFree}
use Rattle.cn_crashes.specs.RecoverableRound.{RecoverableLocal, RecoverablePlan, local_action}
use Rattle.cn_crashes.specs.RecoverableRound.{recoverable_protocol}
use Rattle.cn_crashes.specs.RecoverableRound.RecoverableLocal.{Active, Decided}
use Rattle.cn_crashes.specs.RecoverableRound.RecoverableStage.{Write, Look, Peek, Act, Again, Take}
use Rattle.cn_crashes.proofs.Bounds.{endless}
use Rattle.cn_crashes.proofs.Executions.{after_execution-append}
use Rattle.cn_crashes.proofs.NodeMoves.{Led}
use Rattle.cn_crashes.proofs.NodeStatus.{Ghost, Grows, IsRight, Outcome, Registers, grows_through}
use Rattle.cn_crashes.proofs.NodeStatus.{one_outcome, outcome_grows}
use Rattle.cn_crashes.proofs.NodeStatus.Status.{Fresh}
use Rattle.cn_crashes.proofs.Places.{Standing}
use Rattle.cn_crashes.proofs.Ranks.{rank, rank_few, rank_some}
use Rattle.cn_crashes.proofs.RoundInvariant.{Holds, IsInput, LocalHolds, Setting, World}
use Rattle.cn_crashes.proofs.StageSteps.{keeps_stage}

module _ (t : TypeTable) (R : RecoverablePlan) (n nodes : ℕ) (team : ℕ → Team)
    (sound : IsSound R.round n nodes team) (is : IsRight R n team)
    (acts : (role q : ℕ) → R.round.act role q ≡ transition t (R.operation role) q) (some : 2 ≤ n)
    (short : (p : ℕ) → p < n → length (R.round.path p) ≤ nodes) where
  role_inside : (p i : ℕ) → p < n → (place_of R.round p i).role < n
  role_inside p i l = elim (cases_lt i (length (R.round.path p))) [
    | inl at ↦ sound.roles_below p i (l, at)
    | inr past ↦ subst (λ (z : Place). z.role < n)
        (sym (get_or_past (R.round.path p) i nowhere past)) (omega arith)
  ]

  pub of_type : R.round.start < length t.states
      → ((role : ℕ) → role < n → R.operation role < length t.operations)
      → IsProtocolOf (all_of t) n (recoverable_protocol R)
  of_type start known = record {
    states_known = λ i. start;
    operations_known = by_local;
  }
    where
      by_local : (p : ℕ) (l : RecoverableLocal) → p < n → IsActionOf (all_of t) (local_action R p l)
      by_local p (Active i x Write) lp = tt
      by_local p (Active i x Look) lp = tt
      by_local p (Active i x Peek) lp = tt
      by_local p (Active i x Act) lp = known (place_of R.round p i).role (role_inside p i lp)
      by_local p (Active i x Again) lp = tt
      by_local p (Active i x (Take side)) lp = tt
      by_local p (Decided y) lp = tt

  module _ (inputs : ℕ → Bool) where
    abbrev S : Setting
    S = record {
      table = t;
      plan = R;
      count = n;
      nodes = nodes;
      team = team;
      sound = sound;
      right = is;
      acts = acts;
      inputs = inputs;
    }

    -- what an event of an execution leads to
    record After (g : Ghost) (c c' : World) : Type 0 where
      pub ghost : Ghost
      pub holds : Holds S ghost c'
      pub grows : Grows g c.registers ghost c'.registers

    -- what a step of process p leads to: the process is nearer to its decision
    record Stepped (g : Ghost) (c : World) (p : ℕ) (c' : World) : Type 0 where
      pub reached : After g c c'
      pub nearer : rank R p (c'.locals p) ≤ rank R p (c.locals p) - 1

    stays : (g : Ghost) (rs : Registers) → Grows g rs g rs
    stays g rs = record { held = λ v s x k. k; winner = λ v s e. e }

    stepped_from : (g : Ghost) (c : World) → Holds S g c → (p : ℕ) → p < n
        → (l : RecoverableLocal) → c.locals p ≡ l
        → Stepped g c p (perform (all_of t) c p (local_action R p l))
    stepped_from g c h p lp (Active i x stage) e =
        let m = subst (LocalHolds S g c.registers p) e (h.local p lp) in
        let stand : Standing S g c p i x = record {
          holds = h;
          known = lp;
          inside = m.0;
          input = m.1;
          fed = m.2;
        } in
        let r : Led S g c p (Active i x stage)
        (perform (all_of t) c p (local_action R p (Active i x stage))) =
        keeps_stage S g c p i x stand stage m.3 in
        let same : rank R p (c.locals p) ≡ rank R p (Active i x stage) = ap (rank R p) e in
        record {
          reached = record { ghost = r.ghost; holds = r.holds; grows = r.grows };
          nearer = omega (arith, r.nearer, same);
        }
    stepped_from g c h p lp (Decided y) e = record {
      reached = record { ghost = g; holds = h; grows = stays g c.registers };
      nearer = (let none : rank R p (c.locals p) ≡ 0 = ap (rank R p) e in omega (arith, none));
    }

    stepped : (g : Ghost) (c : World) → Holds S g c → (p : ℕ) → p < n
        → Stepped g c p (step (all_of t) (recoverable_protocol R) c p)
    stepped g c h p lp = stepped_from g c h p lp (c.locals p) refl

    crash : (g : Ghost) (c : World) → Holds S g c → (p : ℕ) → p < n
        → After g c (after_crash (recoverable_protocol R) inputs c p)
    crash g c h p lp = record {
      ghost = g;
      holds = record {
        status = h.status;
        held = h.held;
        local = λ q lq. elim (cases_eq q p) [
          | inl s ↦ subst (λ (z : ℕ). LocalHolds S g c.registers z
              (put c.locals p (Active 0 (inputs p) Write) z)) (sym s)
              (subst (LocalHolds S g c.registers p)
              (sym (put-same c.locals p (Active 0 (inputs p) Write))) (
                sound.starts p lp,
                (p, lp, refl),
                refl,
                tt,
              ))
          | inr d ↦ subst (LocalHolds S g c.registers q)
              (sym (put-other c.locals p (Active 0 (inputs p) Write) q d)) (h.local q lq)
        ];
      };
      grows = stays g c.registers;
    }

    event : (g : Ghost) (c : World) → Holds S g c → (e : Event)
        → process_of e < n → After g c (after_event (all_of t) (recoverable_protocol R) inputs c e)
    event g c h (Step p) l = (stepped g c h p l).reached
    event g c h (Crash p) l = crash g c h p l

    run : (es : List Event) (g : Ghost) (c : World) → Holds S g c
        → IsExecution n es → After g c (after_execution (all_of t) (recoverable_protocol R) inputs
        c es)
    run [] g c h k = record { ghost = g; holds = h; grows = stays g c.registers }
    run (e ∷ es) g c h k =
        let a = event g c h e k.0 in
        let c' = after_event (all_of t) (recoverable_protocol R) inputs c e in
        let b = run es a.ghost c' a.holds k.1 in
        record {
          ghost = b.ghost;
          holds = b.holds;
          grows = grows_through g a.ghost b.ghost c.registers c'.registers
              (after_execution (all_of t) (recoverable_protocol R) inputs c' es).registers a.grows
              b.grows;
        }

    first : Holds S (λ v. Fresh) (initial (recoverable_protocol R) inputs)
    first = record {
      status = λ v. refl;
      held = λ v side x e. absurd (cc e);
      local = λ p lp. (sound.starts p lp, (p, lp, refl), refl, tt);
    }

    -- ---- decisions

    decided_is : (g : Ghost) (rs : Registers) (p : ℕ) (l : RecoverableLocal) (x : Bool)
        → LocalHolds S g rs p l → decided_by (local_action R p l) ≡ Some x
        → IsInput S x × Outcome g rs 0 x
    decided_is g rs p (Decided y) x h e =
        let same : y ≡ x = cc e in (
          subst (IsInput S) same h.0,
          subst (Outcome g rs 0) same h.1,
        )
    decided_is g rs p (Active i z Write) x h e = absurd (cc e)
    decided_is g rs p (Active i z Look) x h e = absurd (cc e)
    decided_is g rs p (Active i z Peek) x h e = absurd (cc e)
    decided_is g rs p (Active i z Act) x h e = absurd (cc e)
    decided_is g rs p (Active i z Again) x h e = absurd (cc e)
    decided_is g rs p (Active i z (Take side)) x h e = absurd (cc e)

    decided_if_none_left : (p : ℕ) (l : RecoverableLocal) → rank R p l ≤ 0
        → (x : Bool) × (decided_by (local_action R p l) ≡ Some x)
    decided_if_none_left p (Decided y) h = (y, refl)
    decided_if_none_left p (Active i x stage) h = absurd (omega (arith, h, rank_some R p i x stage))

    -- a process decides once it has taken so many steps as are left
    within : (p : ℕ) → p < n → (us : List Event) (g : Ghost) (c : World)
        → Holds S g c → IsExecution n us → NeverCrashes p us
        → rank R p (c.locals p) ≤ steps_of p us
        → (x : Bool) × (decision (recoverable_protocol R)
        (after_execution (all_of t) (recoverable_protocol R) inputs c us) p ≡ Some x)
    within p lp [] g c h k never few = decided_if_none_left p (c.locals p) few
    within p lp (Step q ∷ us) g c h k never few =
        let a = stepped g c h q k.0 in
        within p lp us a.reached.ghost (step (all_of t) (recoverable_protocol R) c q)
        a.reached.holds k.1 never.1
        (elim (cases_eq q p) [
          | inl s ↦
              (let one : hit q p ≡ 1 = rw (eq-eqb q p s) refl in
              let near = subst (λ (z : ℕ). rank R z
              ((step (all_of t) (recoverable_protocol R) c q).locals z) ≤ rank R z (c.locals z)
              - 1) s a.nearer in
              omega (arith, one, near, few))
          | inr d ↦
              (let none : hit q p ≡ 0 = rw (ne_eqb q p d) refl in
              let same : rank R p ((step (all_of t) (recoverable_protocol R) c q).locals p) ≡ rank
              R p (c.locals p) =
              ap (rank R p) (others_stepped (all_of t) (recoverable_protocol R) q p c (λ e.
              d (sym e))) in
              omega (arith, none, same, few))
        ])
    within p lp (Crash q ∷ us) g c h k never few =
        let a = crash g c h q k.0 in
        let apart : p ≢ q = λ e. never.0 (ap Crash (sym e)) in
        let same : rank R p ((after_crash (recoverable_protocol R) inputs c q).locals p) ≡ rank R p
        (c.locals p) = ap (rank R p) (put-other c.locals q (Active 0 (inputs q) Write) p apart)
        in
        within p lp us a.ghost (after_crash (recoverable_protocol R) inputs c q) a.holds k.1
        never.1 (omega (arith, same, few))

    rank_bound : (g : Ghost) (c : World) → Holds S g c → (p : ℕ) → p < n
        → rank R p (c.locals p) ≤ 6 * length (R.round.path p)
    rank_bound g c h p lp = rank_few R p (c.locals p) (λ i x stage e.
        (subst (LocalHolds S g c.registers p) e (h.local p lp)).0)

  pub agreement : HasRecoverableAgreement (all_of t) n (recoverable_protocol R)
  agreement inputs es us k m p q x y lp lq d e =
      let a = run inputs es (λ v. Fresh) (initial (recoverable_protocol R) inputs) (first inputs) k
      in
      let c = after_execution (all_of t) (recoverable_protocol R) inputs
      (initial (recoverable_protocol R) inputs) es in
      let b = run inputs us a.ghost c a.holds m in
      let c' = after_execution (all_of t) (recoverable_protocol R) inputs c us in
      let o = decided_is inputs a.ghost c.registers p (c.locals p) x (a.holds.local p lp) d in
      let there : decision (recoverable_protocol R) c' q ≡ Some y =
      ap (λ (z : World). decision (recoverable_protocol R) z q)
      (sym (after_execution-append (all_of t) (recoverable_protocol R) inputs
      (initial (recoverable_protocol R) inputs) es us)) ∙ e in
      let u = decided_is inputs b.ghost c'.registers q (c'.locals q) y (b.holds.local q lq) there in
      one_outcome b.ghost c'.registers 0 x y
      (outcome_grows a.ghost b.ghost c.registers c'.registers 0 x b.grows o.1) u.1

  pub validity : HasRecoverableValidity (all_of t) n (recoverable_protocol R)
  validity inputs es k p x lp d =
      let a = run inputs es (λ v. Fresh) (initial (recoverable_protocol R) inputs) (first inputs) k
      in
      let c = after_execution (all_of t) (recoverable_protocol R) inputs
      (initial (recoverable_protocol R) inputs) es in
      (decided_is inputs a.ghost c.registers p (c.locals p) x (a.holds.local p lp) d).0

  -- six steps for each place of the path of a process are enough
  pub on_path : (inputs : ℕ → Bool) (es us : List Event) → IsExecution n es → IsExecution n us
      → (p : ℕ) → p < n → NeverCrashes p us → 6 * length (R.round.path p) ≤ steps_of p us
      → (x : Bool) × HasDecidedIn (all_of t) (recoverable_protocol R) inputs (es ++ us) p x
  on_path inputs es us k m p lp never often =
      (let a = run inputs es (λ v. Fresh) (initial (recoverable_protocol R) inputs)
      (first inputs) k in
      let c = after_execution (all_of t) (recoverable_protocol R) inputs
      (initial (recoverable_protocol R) inputs) es in
      let r = within inputs p lp us a.ghost c a.holds m never (omega (
        arith,
        often,
        rank_bound inputs a.ghost c a.holds p lp,
      )) in (
        r.0,
        ap (λ (z : World). decision (recoverable_protocol R) z p)
            (after_execution-append (all_of t) (recoverable_protocol R) inputs
            (initial (recoverable_protocol R) inputs) es us) ∙ r.1,
      ))

  pub in_time : (inputs : ℕ → Bool)
      → DecidesWithin (all_of t) n (recoverable_protocol R) inputs (6 * nodes)
  in_time inputs es us k m p lp never often =
      on_path inputs es us k m p lp never (omega (arith, often, short p lp))

  bounded : IsBoundedRecoverablyWaitFree (all_of t) n (recoverable_protocol R)
  bounded inputs = (6 * nodes, in_time inputs)

  pub consensus : IsRecoverableConsensusProtocol (all_of t) n (recoverable_protocol R)
  consensus = record {
    agreement = agreement;
    validity = validity;
    wait_freedom = endless (all_of t) n (recoverable_protocol R) bounded;
  }

  pub solves : nodes ≡ n - 1 → R.round.start < length t.states
      → ((role : ℕ) → role < n → R.operation role < length t.operations)
      → SolvesRecoverableConsensus t n
  solves one_fewer start known = (
    recoverable_protocol R,
    of_type start known,
    consensus,
    λ inputs. subst (λ (k : ℕ). DecidesWithin (all_of t) n (recoverable_protocol R) inputs (6 * k))
        one_fewer (in_time inputs),
  )
