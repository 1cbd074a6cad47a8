-- The lives of a recording plan reach consensus in every schedule.
use Rattle.std.proofs.Common.{◌≡◌, ℕ, ◌*◌, ◌-◌, ◌<◌, ◌≤◌, List, ◌++◌, length, refl, sym, ap}
use Rattle.std.proofs.Common.{◌∙◌, subst, arith, Bool, false, nat_eq, Option, Some, None}
use Rattle.std.specs.Prelude.{option_map, slice_index}
use Rattle.std.proofs.lemmas.Bool.{eq-eqb, eqb-true}
use Rattle.std.proofs.lemmas.Option.{slice_get-get_or}
use Rattle.cn_proto.specs.Plan.{nodes_of, processes_of, protocol_of}
use Rattle.cn_proto.specs.Sound.{IsSound}
use Rattle.cn_proto.specs.Tournament.{team_of}
use Rattle.cn_proto.proofs.PlanLemmas.{plan_short, plan_sound}
use Rattle.cn_agree.specs.Consensus.{IsSchedule}
use Rattle.cn_consensus.specs.Configuration.{decision, initial}
use Rattle.cn_consensus.specs.Types.{all_of}
use Rattle.cn_crashes.specs.Execution.{Event as ModelEvent, HasDecidedIn, NeverCrashes}
use Rattle.cn_crashes.specs.Execution.{after_execution, steps_of}
use Rattle.cn_crashes.specs.RecoverableConsensus.{HasStrongRecoverableValidity}
use Rattle.cn_crashes.specs.RecoverableConsensus.{IsRecoverableConsensusProtocol}
use Rattle.cn_crashes.specs.RecoverableWaitFreedom.{DecidesWithin}
use Rattle.cn_crashes.proofs.LawsBelow.{Tournaments}
use Rattle.cn_crashes.proofs.RoundExecutions as rounds
use Rattle.cn_crashes.proofs.StrongValidity.{strongly_valid}
use Rattle.cn_lives.specs.Plans.{IsRecordingPlan, RecordingPlan}
use Rattle.cn_lives.specs.Runs.{decision_at, world_after}
use Rattle.cn_lives.specs.Schedules.{named}
use Rattle.cn_lives.specs.declared.schedule.Event.{Event}
use Rattle.cn_lives.proofs.Running.{schedule-append}
use Rattle.cn_life_laws.specs.Consensus.{HasDecided, IsRecoverableConsensus}
use Rattle.cn_life_laws.specs.Executions.{execution_of}
use Rattle.cn_life_laws.specs.Mirrors.{configuration_after, inputs_of, lives_protocol}
use Rattle.cn_life_laws.specs.Mirrors.{recoverable_plan}
use Rattle.cn_life_laws.proofs.Executions.{execution, execution_of-append, schedule_parts}
use Rattle.cn_life_laws.proofs.Mirroring.{mirrors_schedule, same_decision}
use Rattle.cn_life_laws.proofs.Rightness.{right}

some_value : (f : ℕ → Bool) (o : Option ℕ) (b : Bool) → option_map f o ≡ Some b
    → (x : ℕ) × (o ≡ Some x)
some_value f None b e = absurd (cc e)
some_value f (Some x) b e = (x, refl)

module _ (p : RecordingPlan) (is : IsRecordingPlan p) (tournaments : Tournaments) where
  abbrev n : ℕ
  n = processes_of p.plan

  sound : IsSound (protocol_of p.plan) n (nodes_of p.plan) (team_of (length p.plan.choice.a))
  sound = plan_sound p.plan is.is_plan

  -- ---- the protocol

  pub bound : (inputs : ℕ → Bool)
      → DecidesWithin (all_of p.plan.table) n (lives_protocol p) inputs (6 * (n - 1))
  bound inputs =
      rounds.in_time p.plan.table (recoverable_plan p) n (nodes_of p.plan)
      (team_of (length p.plan.choice.a)) sound (right p is tournaments) (λ role q. refl)
      is.is_plan.fits.some (plan_short p.plan is.is_plan) inputs

  pub protocol : IsRecoverableConsensusProtocol (all_of p.plan.table) n (lives_protocol p)
  protocol =
      rounds.consensus p.plan.table (recoverable_plan p) n (nodes_of p.plan)
      (team_of (length p.plan.choice.a)) sound (right p is tournaments) (λ role q. refl)
      is.is_plan.fits.some (plan_short p.plan is.is_plan)

  strong : HasStrongRecoverableValidity (all_of p.plan.table) n (lives_protocol p)
  strong = strongly_valid (all_of p.plan.table) n (lives_protocol p) protocol.validity

  -- ---- lives

  module _ (inputs : List ℕ) (many : length inputs ≡ n) where
    decision_is : (f : ℕ → Bool) (es : List Event) → IsSchedule n (named es) → (q : ℕ) → q < n
        → decision (lives_protocol p) (configuration_after p f inputs es) q
        ≡ option_map f (decision_at (world_after p inputs es) q)
    decision_is f es k q lq = same_decision p is.is_plan sound f q (world_after p inputs es)
        (configuration_after p f inputs es) lq
        (mirrors_schedule p is.is_plan sound f inputs es many k)

    decided : (f : ℕ → Bool) (es : List Event) → IsSchedule n (named es) → (q x : ℕ) → q < n
        → HasDecided p inputs es q x
        → HasDecidedIn (all_of p.plan.table) (lives_protocol p) (inputs_of f inputs)
        (execution_of es) q (f x)
    decided f es k q x lq d = decision_is f es k q lq ∙ ap (option_map f) d

    -- the same after a schedule of two parts
    decided_behind : (f : ℕ → Bool) (es us : List Event) → IsSchedule n (named es)
        → IsSchedule n (named us) → (q x : ℕ) → q < n → HasDecided p inputs (es ++ us) q x
        → HasDecidedIn (all_of p.plan.table) (lives_protocol p) (inputs_of f inputs)
        (execution_of es ++ execution_of us) q (f x)
    decided_behind f es us k h q x lq d =
        subst (λ (xs : List ModelEvent). HasDecidedIn (all_of p.plan.table) (lives_protocol p)
        (inputs_of f inputs) xs q (f x)) (execution_of-append es us)
        (decided f (es ++ us) (schedule-append n es us k h) q x lq d)

    -- six steps for each place of its path are enough for a process
    pub on_path : (es us : List Event) → IsSchedule n (named es) → IsSchedule n (named us)
        → (q : ℕ) → q < n → NeverCrashes q (execution_of us)
        → 6 * length ((protocol_of p.plan).path q) ≤ steps_of q (execution_of us)
        → (x : ℕ) × HasDecided p inputs (es ++ us) q x
    on_path es us k h q lq never often =
        (let f : ℕ → Bool = λ v. false in
        let d = rounds.on_path p.plan.table (recoverable_plan p) n (nodes_of p.plan)
        (team_of (length p.plan.choice.a)) sound (right p is tournaments) (λ role s. refl)
        is.is_plan.fits.some (plan_short p.plan is.is_plan) (inputs_of f inputs) (execution_of es)
        (execution_of us) (execution n es k) (execution n us h) q lq never often in
        some_value f (decision_at (world_after p inputs (es ++ us)) q) d.0
        (sym (decision_is f (es ++ us) (schedule-append n es us k h) q lq)
        ∙ (ap (λ (xs : List ModelEvent). decision (lives_protocol p) (after_execution
        (all_of p.plan.table) (lives_protocol p) (inputs_of f inputs)
        (initial (lives_protocol p) (inputs_of f inputs)) xs) q) (execution_of-append es us)
        ∙ d.1)))

    pub consensus : (events : List Event) → IsSchedule n (named events)
        → IsRecoverableConsensus p inputs events
    consensus events k = record {
      agreement = λ es us vs e q r x y lq lr d d'.
          (let parts = schedule_parts n es (us ++ vs)
          (subst (λ (s : List Event). IsSchedule n (named s)) e k) in
          let ke = parts.0 in
          let ku = (schedule_parts n us vs parts.1).0 in
          let f : ℕ → Bool = λ v. nat_eq v x in
          let same : nat_eq x x ≡ nat_eq y x =
          protocol.agreement (inputs_of f inputs) (execution_of es) (execution_of us)
          (execution n es ke) (execution n us ku) q r (nat_eq x x) (nat_eq y x) lq lr
          (decided f es ke q x lq d) (decided_behind f es us ke ku r y lr d') in
          sym (eqb-true y x (sym same ∙ eq-eqb x x refl)));
      validity = λ es us e q x lq d.
          (let ke = (schedule_parts n es us
          (subst (λ (s : List Event). IsSchedule n (named s)) e k)).0 in
          let f : ℕ → Bool = λ v. nat_eq v x in
          let v = strong (inputs_of f inputs) (execution_of es) (execution n es ke) q (nat_eq x x)
          lq (decided f es ke q x lq d) in
          let there : v.0 < length inputs = subst (λ (m : ℕ). v.0 < m) (sym many) v.1 in
          let is : slice_index inputs v.0 ≡ x =
          eqb-true (slice_index inputs v.0) x (v.2 ∙ eq-eqb x x refl) in
          (v.0, slice_get-get_or inputs v.0 0 there ∙ ap Some is, v.3));
      wait_free = λ es us vs e q lq never often.
          (let parts = schedule_parts n es (us ++ vs)
          (subst (λ (s : List Event). IsSchedule n (named s)) e k) in
          on_path es us parts.0 (schedule_parts n us vs parts.1).0 q lq never
          (omega (arith, often, plan_short p.plan is.is_plan q lq)));
    }
