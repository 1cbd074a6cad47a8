-- Lives step and crash as the protocol of their plan does.
use Rattle.std.proofs.Common.{◌≡◌, ℕ, suc, ◌+◌, ◌*◌, ◌<◌, inl, inr, List, [], ◌∷◌, length, refl}
use Rattle.std.proofs.Common.{sym, ap, ◌∙◌, subst, arith, Bool, true, false, cond, nat_eq, nat_lt}
use Rattle.std.proofs.Common.{Option, Some, None, slice_index_or, slice_set}
use Rattle.std.proofs.Common.{get_or-set_same, get_or-set_other}
use Rattle.std.specs.Prelude.{slice_index, option_map, if◌then◌else◌}
use Rattle.std.proofs.lemmas.Bool.{cases_eq}
use Rattle.std.proofs.lemmas.List.{get_or-map, get_or-replicate}
use Rattle.cn_table.specs.declared.elements.State.{State}
use Rattle.cn_choice.specs.declared.team.Team.{Team}
use Rattle.cn_choice.specs.declared.team.Team.TheVariants.{A, B}
use Rattle.cn_proto.specs.Plan.{IsPlan, nodes_of, processes_of, protocol_of}
use Rattle.cn_proto.specs.Protocol.{place_of}
use Rattle.cn_proto.specs.Sound.{IsSound}
use Rattle.cn_proto.specs.Tournament.{team_of}
use Rattle.cn_proto.specs.declared.place.Place.{Place}
use Rattle.cn_consensus.specs.Configuration.{Configuration, decided_by, decision, initial, perform}
use Rattle.cn_consensus.specs.Configuration.{put, step}
use Rattle.cn_consensus.specs.Types.{all_of}
use Rattle.cn_consensus.proofs.Alike.{put-other, put-same}
use Rattle.cn_solvable.specs.RoundProtocol.{register_of as model_register}
use Rattle.cn_agree.specs.Consensus.{IsSchedule}
use Rattle.cn_crashes.specs.Execution.{after_crash as model_crash, after_execution}
use Rattle.cn_crashes.specs.RecoverableRound.{RecoverableLocal, RecoverablePlan, RecoverableStage}
use Rattle.cn_crashes.specs.RecoverableRound.{local_action, recoverable_protocol, stage_action}
use Rattle.cn_crashes.specs.RecoverableRound as rounds
use Rattle.cn_crashes.specs.RecoverableRound.RecoverableLocal.{Active as ActiveLocal}
use Rattle.cn_crashes.specs.RecoverableRound.RecoverableLocal.{Decided as DecidedLocal}
use Rattle.cn_crashes.specs.RecoverableRound.RecoverableStage.{Write as WriteStage}
use Rattle.cn_crashes.specs.RecoverableRound.RecoverableStage.{Look as LookStage}
use Rattle.cn_crashes.specs.RecoverableRound.RecoverableStage.{Peek as PeekStage, Act as ActStage}
use Rattle.cn_crashes.specs.RecoverableRound.RecoverableStage.{Again as AgainStage}
use Rattle.cn_crashes.specs.RecoverableRound.RecoverableStage.{Take as TakeStage}
use Rattle.cn_lives.specs.Plans.{RecordingPlan, is_lone, judge}
use Rattle.cn_lives.specs.Runs.{after_events, decision_of, first_world, world_after}
use Rattle.cn_lives.specs.Schedules.{named}
use Rattle.cn_lives.specs.Steps.{World, after_action, after_crash, after_step, after_step_from}
use Rattle.cn_lives.specs.Steps.{first_stage, held_at, local_at, onward, onward_if, register_of}
use Rattle.cn_lives.specs.Steps.{stage_seen, state_at}
use Rattle.cn_lives.specs.declared.local.Local.{Local}
use Rattle.cn_lives.specs.declared.local.Local.TheVariants.{Active, Decided}
use Rattle.cn_lives.specs.declared.local.Stage.{Stage}
use Rattle.cn_lives.specs.declared.local.Stage.TheVariants.{Write, Look, Peek, Act, Again, Take}
use Rattle.cn_lives.specs.declared.schedule.Event.{Event}
use Rattle.cn_lives.specs.declared.schedule.Event.TheVariants.{Step, Crash}
use Rattle.cn_lives.proofs.Fitting.{Fits, IsAt, fits_crash, fits_first, fits_step}
use Rattle.cn_life_laws.specs.Executions.{execution_of}
use Rattle.cn_life_laws.specs.Mirrors.{Mirrors, configuration_after, inputs_of, lives_protocol}
use Rattle.cn_life_laws.specs.Mirrors.{local_of, recoverable_plan, stage_of}

-- ---- local states

module _ (f : ℕ → Bool) where
  first_stage_is : (lone : Bool) (side : Team)
      → rounds.first_stage lone side ≡ stage_of (first_stage lone side)
  first_stage_is true A = refl
  first_stage_is true B = refl
  first_stage_is false side = refl

  seen_is : (p : RecordingPlan) (i x : ℕ) (side : Team) (q : ℕ)
      → ActiveLocal i (f x) (cond (nat_eq q (protocol_of p.plan).start)
      (rounds.first_stage (is_lone p) side) (TakeStage (judge p q)))
      ≡ local_of f (Active i x (stage_seen p side q))
  seen_is p i x side q = by_test (nat_eq q (protocol_of p.plan).start)
    where
      by_test : (b : Bool)
          → ActiveLocal i (f x) (cond b (rounds.first_stage (is_lone p) side)
          (TakeStage (judge p q)))
          ≡ local_of f (Active i x (if b then first_stage (is_lone p) side else Take (judge p q)))
      by_test true = ap (ActiveLocal i (f x)) (first_stage_is (is_lone p) side)
      by_test false = refl

  onward_is : (places i y : ℕ) → rounds.onward places i (f y) ≡ local_of f (onward places i y)
  onward_is places i y =
      by_test (nat_lt (suc i) places)
      ∙ ap (λ (k : ℕ). local_of f (if nat_lt k places then Active k y Write else Decided y))
      next
    where
      next : suc i ≡ i + 1
      next = omega arith

      by_test : (b : Bool) → cond b (ActiveLocal (suc i) (f y) WriteStage) (DecidedLocal (f y))
          ≡ local_of f (if b then Active (suc i) y Write else Decided y)
      by_test true = refl
      by_test false = refl

  onward_if_is : (places i : ℕ) (l : Local) (held : Option ℕ)
      → rounds.onward_if places i (local_of f l) (option_map f held)
      ≡ local_of f (onward_if places i l held)
  onward_if_is places i l None = refl
  onward_if_is places i l (Some y) = onward_is places i y

  decided_is : (R : RecoverablePlan) (q : ℕ) (l : Local)
      → decided_by (local_action R q (local_of f l)) ≡ option_map f (decision_of l)
  decided_is R q (Active i x Write) = refl
  decided_is R q (Active i x Look) = refl
  decided_is R q (Active i x Peek) = refl
  decided_is R q (Active i x Act) = refl
  decided_is R q (Active i x Again) = refl
  decided_is R q (Active i x (Take side)) = refl
  decided_is R q (Decided y) = refl

-- a register has the same number in memory as in the model
same_register : (v : ℕ) (side : Team) → model_register v side ≡ register_of v side
same_register v A = refl
same_register v B = refl

-- ---- steps and crashes

module _ (p : RecordingPlan) (is : IsPlan p.plan)
    (sound : IsSound (protocol_of p.plan) (processes_of p.plan) (nodes_of p.plan)
    (team_of (length p.plan.choice.a))) (f : ℕ → Bool) where
  abbrev n : ℕ
  n = processes_of p.plan

  abbrev nodes : ℕ
  nodes = nodes_of p.plan

  abbrev R : RecoverablePlan
  R = recoverable_plan p

  abbrev Model : Type 0
  Model = Configuration RecoverableLocal (Option Bool)

  -- process q gets another local state
  local_put : (w : World) (c : Model) (q : ℕ) (mine : RecoverableLocal) (next : Local) → q < n
      → Fits p w → Mirrors p f w c → mine ≡ local_of f next → (r : ℕ) → r < n
      → put c.locals q mine r
      ≡ local_of f (slice_index_or (slice_set w.locals q next) r (Decided 0))
  local_put w c q mine next lq h m e r lr =
      let within : q < length w.locals = subst (λ (k : ℕ). q < k) (sym h.locals_are) lq in
      elim (cases_eq r q) [
        | inl s ↦ ap (put c.locals q mine) s ∙ (put-same c.locals q mine ∙ (e
            ∙ ap (local_of f) (sym (ap (λ (k : ℕ).
            slice_index_or (slice_set w.locals q next) k (Decided 0)) s
            ∙ get_or-set_same w.locals q next (Decided 0) within))))
        | inr d ↦ put-other c.locals q mine r d ∙ (m.local r lr
            ∙ ap (local_of f) (sym (get_or-set_other w.locals q r next (Decided 0) d)))
      ]

  state_put : (w : World) (c : Model) (v s : ℕ) → v < nodes → Fits p w → Mirrors p f w c
      → (u : ℕ) → u < nodes
      → put c.objects v s u ≡ state_at (slice_set w.objects v (record { 0 = s })) u
  state_put w c v s lv h m u lu =
      let next : State = record { 0 = s } in
      let within : v < length w.objects = subst (λ (k : ℕ). v < k) (sym h.objects_are) lv in
      elim (cases_eq u v) [
        | inl e ↦ ap (put c.objects v s) e ∙ (put-same c.objects v s
            ∙ sym (ap (λ (k : ℕ). state_at (slice_set w.objects v next) k) e
            ∙ ap (λ (z : State). z.0)
            (get_or-set_same w.objects v next (record { 0 = 0 }) within)))
        | inr d ↦ put-other c.objects v s u d ∙ (m.state u lu
            ∙ sym (ap (λ (z : State). z.0)
            (get_or-set_other w.objects v u next (record { 0 = 0 }) d)))
      ]

  held_put : (w : World) (c : Model) (v : ℕ) (team : Team) (x : ℕ) → v < nodes → Fits p w
      → Mirrors p f w c → (u : ℕ) → u < nodes → (side : Team)
      → put c.registers (model_register v team) (Some (f x)) (model_register u side)
      ≡ option_map f (held_at (slice_set w.registers (register_of v team) (Some x)) u side)
  held_put w c v team x lv h m u lu side =
      let i : ℕ = register_of v team in
      let j : ℕ = model_register v team in
      let within : i < length w.registers = subst (λ (k : ℕ). i < k) (sym h.registers_are)
      (few team) in
      elim (cases_eq (register_of u side) i) [
        | inl e ↦ ap (put c.registers j (Some (f x)))
            (same_register u side ∙ (e ∙ sym (same_register v team)))
            ∙ (put-same c.registers j (Some (f x)) ∙ ap (option_map f) (sym (ap (λ (k : ℕ).
            slice_index_or (slice_set w.registers i (Some x)) k None) e
            ∙ get_or-set_same w.registers i (Some x) None within)))
        | inr d ↦ put-other c.registers j (Some (f x)) (model_register u side)
            (λ e. d (sym (same_register u side) ∙ (e ∙ same_register v team)))
            ∙ (m.held u lu side ∙ ap (option_map f)
            (sym (get_or-set_other w.registers i (register_of u side) (Some x) None d)))
      ]
    where
      few : (team : Team) → register_of v team < 2 * nodes
      few A = omega (arith, lv)
      few B = omega (arith, lv)

  module _ (q i x : ℕ) (w : World) (c : Model) (lq : q < n)
      (at : i < length ((protocol_of p.plan).path q)) (h : Fits p w) (m : Mirrors p f w c) where
    abbrev here : Place
    here = place_of R.round q i

    abbrev places : ℕ
    places = length (R.round.path q)

    inside : here.node < nodes
    inside = sound.nodes_below q i (lq, at)

    state_is : c.objects here.node ≡ state_at w.objects here.node
    state_is = m.state here.node inside

    acts : (stage : Stage) → Mirrors p f (after_action p q w i x stage here)
        (perform (all_of p.plan.table) c q (stage_action R places i (f x) (stage_of stage) here))
    acts Write = record {
      local = local_put w c q (ActiveLocal i (f x) LookStage) (Active i x Look) lq h m refl;
      state = m.state;
      held = held_put w c here.node here.team x inside h m;
    }
    acts Look = record {
      local = local_put w c q (ActiveLocal i (f x)
          (cond (nat_eq (c.objects here.node) R.round.start) (rounds.first_stage R.lone here.team)
          (TakeStage (R.judge (c.objects here.node)))))
          (Active i x (stage_seen p here.team (state_at w.objects here.node))) lq h m
          (ap (λ (s : ℕ). ActiveLocal i (f x) (cond (nat_eq s R.round.start)
          (rounds.first_stage R.lone here.team) (TakeStage (R.judge s)))) state_is
          ∙ seen_is f p i x here.team (state_at w.objects here.node));
      state = m.state;
      held = m.held;
    }
    acts Peek = record {
      local = local_put w c q (rounds.onward_if places i (ActiveLocal i (f x) ActStage)
          (c.registers (model_register here.node B)))
          (onward_if places i (Active i x Act) (held_at w.registers here.node B)) lq h m
          (ap (rounds.onward_if places i (ActiveLocal i (f x) ActStage))
          (m.held here.node inside B)
          ∙ onward_if_is f places i (Active i x Act) (held_at w.registers here.node B));
      state = m.state;
      held = m.held;
    }
    acts Act = record {
      local = local_put w c q (ActiveLocal i (f x) AgainStage) (Active i x Again) lq h m refl;
      state = λ u lu.
          ap (λ (s : ℕ). put c.objects here.node (R.round.act here.role s).1 u) state_is
          ∙ state_put w c here.node (R.round.act here.role (state_at w.objects here.node)).1 inside
          h m u lu;
      held = m.held;
    }
    acts Again = record {
      local = local_put w c q (ActiveLocal i (f x) (TakeStage (R.judge (c.objects here.node))))
          (Active i x (Take (R.judge (state_at w.objects here.node)))) lq h m
          (ap (λ (s : ℕ). ActiveLocal i (f x) (TakeStage (R.judge s))) state_is);
      state = m.state;
      held = m.held;
    }
    acts (Take side) = record {
      local = local_put w c q (rounds.onward_if places i
          (ActiveLocal i (f x) (TakeStage side)) (c.registers (model_register here.node side)))
          (onward_if places i (Active i x (Take side)) (held_at w.registers here.node side)) lq h m
          (ap (rounds.onward_if places i (ActiveLocal i (f x) (TakeStage side)))
          (m.held here.node inside side)
          ∙ onward_if_is f places i (Active i x (Take side)) (held_at w.registers here.node side));
      state = m.state;
      held = m.held;
    }

  pub mirrors_step : (q : ℕ) (w : World) (c : Model) → q < n → Fits p w → Mirrors p f w c
      → Mirrors p f (after_step p q w) (step (all_of p.plan.table) (lives_protocol p) c q)
  mirrors_step q w c lq h m =
      subst (λ (l : RecoverableLocal). Mirrors p f (after_step p q w)
      (perform (all_of p.plan.table) c q (local_action R q l))) (sym (m.local q lq))
      (go (local_at w q) refl)
    where
      go : (l : Local) → local_at w q ≡ l → Mirrors p f (after_step_from p q w l)
          (perform (all_of p.plan.table) c q (local_action R q (local_of f l)))
      go (Active i x stage) e = acts q i x w c lq (subst (IsAt p q) e (h.places q lq)) h m stage
      go (Decided y) e = m

  pub mirrors_crash : (q : ℕ) (w : World) (c : Model) → q < n → Fits p w → Mirrors p f w c
      → Mirrors p f (after_crash q w)
      (model_crash (lives_protocol p) (inputs_of f w.inputs) c q)
  mirrors_crash q w c lq h m = record {
    local = local_put w c q (ActiveLocal 0 (f (slice_index w.inputs q)) WriteStage)
        (Active 0 (slice_index w.inputs q) Write) lq h m refl;
    state = m.state;
    held = m.held;
  }

  first_mirrors : (inputs : List ℕ) → length inputs ≡ n
      → Mirrors p f (first_world p inputs) (initial (lives_protocol p) (inputs_of f inputs))
  first_mirrors inputs many = record {
    local = λ q lq. ap (local_of f)
        (sym (get_or-map (λ (x : ℕ). Active 0 x Write) inputs q 0 (Decided 0)
        (subst (λ (k : ℕ). q < k) (sym many) lq)));
    state = λ v lv. ap (λ (s : State). s.0)
        (sym (get_or-replicate nodes v (record { 0 = p.plan.choice.state }) (record { 0 = 0 }) lv));
    held = λ v lv side. ap (option_map f)
        (sym (get_or-replicate (2 * nodes) (register_of v side) None None (few v lv side)));
  }
    where
      few : (v : ℕ) → v < nodes → (side : Team) → register_of v side < 2 * nodes
      few v lv A = omega (arith, lv)
      few v lv B = omega (arith, lv)

  inputs_step : (q : ℕ) (w : World) → (after_step p q w).inputs ≡ w.inputs
  inputs_step q w = go (local_at w q)
    where
      go : (l : Local) → (after_step_from p q w l).inputs ≡ w.inputs
      go (Active i x stage) = refl
      go (Decided y) = refl

  mirrors_events : (inputs : List ℕ) (es : List Event) (w : World) (c : Model)
      → IsSchedule n (named es) → w.inputs ≡ inputs → Fits p w → Mirrors p f w c
      → Mirrors p f (after_events p es w) (after_execution (all_of p.plan.table)
      (lives_protocol p) (inputs_of f inputs) c (execution_of es))
  mirrors_events inputs [] w c k same h m = m
  mirrors_events inputs (Step q ∷ es) w c k same h m =
      mirrors_events inputs es (after_step p q w)
      (step (all_of p.plan.table) (lives_protocol p) c q) k.1 (inputs_step q w ∙ same)
      (fits_step p is sound q w k.0 h) (mirrors_step q w c k.0 h m)
  mirrors_events inputs (Crash q ∷ es) w c k same h m =
      mirrors_events inputs es (after_crash q w)
      (model_crash (lives_protocol p) (inputs_of f inputs) c q) k.1 same
      (fits_crash p is sound q w k.0 h)
      (subst (λ (given : List ℕ). Mirrors p f (after_crash q w)
      (model_crash (lives_protocol p) (inputs_of f given) c q)) same
      (mirrors_crash q w c k.0 h m))

  pub mirrors_schedule : (inputs : List ℕ) (es : List Event) → length inputs ≡ n
      → IsSchedule n (named es)
      → Mirrors p f (world_after p inputs es) (configuration_after p f inputs es)
  mirrors_schedule inputs es many k =
      mirrors_events inputs es (first_world p inputs)
      (initial (lives_protocol p) (inputs_of f inputs)) k refl
      (fits_first p is sound inputs many) (first_mirrors inputs many)

  pub same_decision : (q : ℕ) (w : World) (c : Model) → q < n → Mirrors p f w c
      → decision (lives_protocol p) c q ≡ option_map f (decision_of (local_at w q))
  same_decision q w c lq m =
      ap (λ (l : RecoverableLocal). decided_by (local_action R q l)) (m.local q lq)
      ∙ decided_is f R q (local_at w q)
