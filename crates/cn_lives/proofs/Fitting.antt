-- Lives fit their plan: their lists have the lengths of the plan, each process is at a place of its
-- path, and each object is in a state of the table.
use Rattle.std.proofs.Common.{◌≡◌, ℕ, ◌+◌, ◌*◌, ◌<◌, inl, inr, List, [], ◌∷◌, length, refl, sym, ap}
use Rattle.std.proofs.Common.{◌∙◌, subst, Bool, true, false, nat_lt, Option, Some, None}
use Rattle.std.proofs.Common.{slice_index_or, slice_set, length-set, get_or-set_same}
use Rattle.std.proofs.Common.{get_or-set_other}
use Rattle.std.specs.Prelude.{slice_index, if◌then◌else◌}
use Rattle.std.proofs.lemmas.Bool.{cases_eq, ltb-true}
use Rattle.std.proofs.lemmas.List.{get_or_default, get_or-map, get_or-replicate, length-map}
use Rattle.std.proofs.lemmas.List.{length-replicate}
use Rattle.cn_table.specs.declared.elements.State.{State}
use Rattle.cn_table.proofs.ReachLemmas.{next_below}
use Rattle.cn_choice.specs.Canonical.{raw_choice_of}
use Rattle.cn_choice.specs.declared.team.Team.{Team}
use Rattle.cn_proto.specs.Plan.{IsPlan, nodes_of, processes_of, protocol_of}
use Rattle.cn_proto.specs.Protocol.{nowhere, place_of}
use Rattle.cn_proto.specs.Sound.{IsSound}
use Rattle.cn_proto.specs.Tournament.{team_of}
use Rattle.cn_proto.specs.declared.place.Place.{Place}
use Rattle.cn_proto.proofs.PlanLemmas.{operation_known}
use Rattle.cn_agree.specs.Consensus.{IsSchedule}
use Rattle.cn_lives.specs.Plans.{RecordingPlan}
use Rattle.cn_lives.specs.Runs.{AreLivesOf, after_events, first_world}
use Rattle.cn_lives.specs.Schedules.{named}
use Rattle.cn_lives.specs.Steps.{World, after_crash, after_step, after_step_from, held_at}
use Rattle.cn_lives.specs.Steps.{local_after}
use Rattle.cn_lives.specs.Steps.{local_at, objects_after, onward, onward_if, register_of}
use Rattle.cn_lives.specs.Steps.{registers_after, state_at}
use Rattle.cn_lives.specs.Turns.{IsTurn}
use Rattle.cn_lives.specs.declared.local.Local.{Local}
use Rattle.cn_lives.specs.declared.local.Local.TheVariants.{Active, Decided}
use Rattle.cn_lives.specs.declared.local.Stage.{Stage}
use Rattle.cn_lives.specs.declared.local.Stage.TheVariants.{Write, Look, Peek, Act, Again, Take}
use Rattle.cn_lives.specs.declared.schedule.Event.{Event}
use Rattle.cn_lives.specs.declared.schedule.Event.TheVariants.{Step, Crash}

-- process q is at a place of its path, or has decided
abbrev pub IsAt : RecordingPlan → ℕ → Local → Type 0
IsAt p q (Active i x stage) = i < length ((protocol_of p.plan).path q)
IsAt p q (Decided y) = Unit {0}

pub record Fits (p : RecordingPlan) (w : World) : Type 0 where
  pub locals_are : length w.locals ≡ processes_of p.plan
  pub inputs_are : length w.inputs ≡ processes_of p.plan
  pub registers_are : length w.registers ≡ 2 * nodes_of p.plan
  pub objects_are : length w.objects ≡ nodes_of p.plan
  pub places : (q : ℕ) → q < processes_of p.plan → IsAt p q (local_at w q)
  pub states : (v : ℕ) → v < nodes_of p.plan → state_at w.objects v < length p.plan.table.states

module _ (p : RecordingPlan) (is : IsPlan p.plan)
    (sound : IsSound (protocol_of p.plan) (processes_of p.plan) (nodes_of p.plan)
    (team_of (length p.plan.choice.a))) where
  abbrev n : ℕ
  n = processes_of p.plan

  abbrev states : ℕ
  states = length p.plan.table.states

  -- ---- at first

  pub fits_first : (inputs : List ℕ) → length inputs ≡ n → Fits p (first_world p inputs)
  fits_first inputs many = record {
    locals_are = length-map inputs (λ (x : ℕ). Active 0 x Write) ∙ many;
    inputs_are = many;
    registers_are = length-replicate (2 * nodes_of p.plan) None;
    objects_are = length-replicate (nodes_of p.plan) (record { 0 = p.plan.choice.state });
    places = λ q l. subst (IsAt p q)
        (sym (get_or-map (λ (x : ℕ). Active 0 x Write) inputs q 0 (Decided 0)
        (subst (λ (k : ℕ). q < k) (sym many) l))) (sound.starts q l);
    states = λ v l. subst (λ (s : State). s.0 < states)
        (sym (get_or-replicate (nodes_of p.plan) v (record { 0 = p.plan.choice.state })
        (record { 0 = 0 }) l)) is.fits.fits.state_known;
  }

  -- ---- a new local state

  with_local : (w : World) (q : ℕ) (next : Local) → q < n → Fits p w → IsAt p q next
      → (r : ℕ) → r < n → IsAt p r (slice_index_or (slice_set w.locals q next) r (Decided 0))
  with_local w q next lq h at r lr =
      let within : q < length w.locals = subst (λ (k : ℕ). q < k) (sym h.locals_are) lq in
      elim (cases_eq r q) [
        | inl s ↦ subst (λ (z : ℕ). IsAt p z (slice_index_or (slice_set w.locals q next) z
            (Decided 0))) (sym s)
            (subst (IsAt p q) (sym (get_or-set_same w.locals q next (Decided 0) within)) at)
        | inr d ↦ subst (IsAt p r) (sym (get_or-set_other w.locals q r next (Decided 0) d))
            (h.places r lr)
      ]

  pub fits_crash : (q : ℕ) (w : World) → q < n → Fits p w → Fits p (after_crash q w)
  fits_crash q w lq h = record {
    locals_are = length-set w.locals q (Active 0 (slice_index w.inputs q) Write) ∙ h.locals_are;
    inputs_are = h.inputs_are;
    registers_are = h.registers_are;
    objects_are = h.objects_are;
    places = with_local w q (Active 0 (slice_index w.inputs q) Write) lq h (sound.starts q lq);
    states = h.states;
  }

  -- ---- a step

  module _ (q i : ℕ) (at : i < length ((protocol_of p.plan).path q)) where
    onward_at : (y : ℕ) → IsAt p q (onward (length ((protocol_of p.plan).path q)) i y)
    onward_at y = by_test (nat_lt (i + 1) (length ((protocol_of p.plan).path q))) refl
      where
        by_test : (b : Bool) → nat_lt (i + 1) (length ((protocol_of p.plan).path q)) ≡ b
            → IsAt p q (if b then Active (i + 1) y Write else Decided y)
        by_test true e = ltb-true (i + 1) (length ((protocol_of p.plan).path q)) e
        by_test false e = tt

    onward_if_at : (l : Local) → IsAt p q l → (held : Option ℕ)
        → IsAt p q (onward_if (length ((protocol_of p.plan).path q)) i l held)
    onward_if_at l a None = a
    onward_if_at l a (Some y) = onward_at y

    next_at : (x : ℕ) (stage : Stage) (here : Place) (s : ℕ) (held : Team → Option ℕ)
        → IsAt p q (local_after p (length ((protocol_of p.plan).path q)) i x
        stage here s held)
    next_at x Write here s held = at
    next_at x Look here s held = at
    next_at x Peek here s held = onward_if_at (Active i x Act) at (held _)
    next_at x Act here s held = at
    next_at x Again here s held = at
    next_at x (Take side) here s held = onward_if_at (Active i x (Take side)) at (held side)

  registers_kept : (x : ℕ) (stage : Stage) (here : Place) (registers : List (Option ℕ))
      → length (registers_after x stage here registers) ≡ length registers
  registers_kept x Write here registers =
      length-set registers (register_of here.node here.team) (Some x)
  registers_kept x Look here registers = refl
  registers_kept x Peek here registers = refl
  registers_kept x Act here registers = refl
  registers_kept x Again here registers = refl
  registers_kept x (Take side) here registers = refl

  objects_kept : (stage : Stage) (here : Place) (objects : List State)
      → length (objects_after p stage here objects) ≡ length objects
  objects_kept Write here objects = refl
  objects_kept Look here objects = refl
  objects_kept Peek here objects = refl
  objects_kept Act here objects = length-set objects here.node _
  objects_kept Again here objects = refl
  objects_kept (Take side) here objects = refl

  states_known : (w : World) (stage : Stage) (here : Place) → Fits p w → here.node < nodes_of p.plan
      → here.role < n → (v : ℕ) → v < nodes_of p.plan
      → state_at (objects_after p stage here w.objects) v < states
  states_known w Write here h ln lr v lv = h.states v lv
  states_known w Look here h ln lr v lv = h.states v lv
  states_known w Peek here h ln lr v lv = h.states v lv
  states_known w Act here h ln lr v lv =
      let s = state_at w.objects here.node in
      let next : State = record { 0 = ((protocol_of p.plan).act here.role s).1 } in
      let known : next.0 < states =
      next_below p.plan.table (slice_index (raw_choice_of p.plan.choice).operations here.role) s
      is.known (operation_known p.plan is here.role lr) (h.states here.node ln) in
      let within : here.node < length w.objects = subst (λ (k : ℕ). here.node < k)
      (sym h.objects_are) ln in
      elim (cases_eq v here.node) [
        | inl e ↦ subst (λ (z : ℕ). state_at (slice_set w.objects here.node next) z < states)
            (sym e)
            (subst (λ (z : State). z.0 < states)
            (sym (get_or-set_same w.objects here.node next (record { 0 = 0 }) within)) known)
        | inr d ↦ subst (λ (z : State). z.0 < states)
            (sym (get_or-set_other w.objects here.node v next (record { 0 = 0 }) d)) (h.states v lv)
      ]
  states_known w Again here h ln lr v lv = h.states v lv
  states_known w (Take side) here h ln lr v lv = h.states v lv

  pub fits_step : (q : ℕ) (w : World) → q < n → Fits p w
      → Fits p (after_step p q w)
  fits_step q w lq h = go (local_at w q) refl
    where
      go : (l : Local) → local_at w q ≡ l → Fits p (after_step_from p q w l)
      go (Decided y) e = h
      go (Active i x stage) e =
          let at : i < length ((protocol_of p.plan).path q) = subst (IsAt p q) e (h.places q lq) in
          let here = place_of (protocol_of p.plan) q i in
          let next = local_after p (length ((protocol_of p.plan).path q)) i x
          stage here (state_at w.objects here.node) (held_at w.registers here.node) in
          record {
            locals_are = length-set w.locals q next ∙ h.locals_are;
            inputs_are = h.inputs_are;
            registers_are = registers_kept x stage here w.registers ∙ h.registers_are;
            objects_are = objects_kept stage here w.objects ∙ h.objects_are;
            places = with_local w q next lq h (next_at q i at x stage here
                (state_at w.objects here.node) (held_at w.registers here.node));
            states = states_known w stage here h (sound.nodes_below q i (lq, at))
                (sound.roles_below q i (lq, at));
          }

  -- ---- a schedule

  pub fits_events : (es : List Event) (w : World) → IsSchedule n (named es) → Fits p w
      → Fits p (after_events p es w)
  fits_events [] w k h = h
  fits_events (Step q ∷ es) w k h =
      fits_events es (after_step p q w) k.1 (fits_step q w k.0 h)
  fits_events (Crash q ∷ es) w k h =
      fits_events es (after_crash q w) k.1 (fits_crash q w k.0 h)

  pub fits : (es : List Event) (w : World) → AreLivesOf p es w → Fits p w
  fits es w l = subst (Fits p) (sym l.is)
      (fits_events es (first_world p w.inputs) l.schedule (fits_first w.inputs l.inputs_are))

  -- ---- the turn of a process

  pub process_within : (w : World) (q : ℕ) → Fits p w → q < n → q < length w.locals
  process_within w q h l = subst (λ (k : ℕ). q < k) (sym h.locals_are) l

  -- a process at a place, with the path that was read
  pub turn_at : (w : World) → Fits p w → (q i x : ℕ) (stage : Stage) → q < n
      → local_at w q ≡ Active i x stage → (path : List Place) → path ≡ (protocol_of p.plan).path q
      → IsTurn p w q (record {
        here = slice_index_or path i nowhere;
        place = i;
        places = length path;
        value = x;
        stage = stage;
      })
  turn_at w h q i x stage lq e path same =
      let at : i < length ((protocol_of p.plan).path q) = subst (IsAt p q) e (h.places q lq) in
      let here : slice_index_or path i nowhere ≡ place_of (protocol_of p.plan) q i =
      ap (λ (l : List Place). slice_index_or l i nowhere) same in
      let node : (place_of (protocol_of p.plan) q i).node < nodes_of p.plan =
      sound.nodes_below q i (lq, at) in
      record {
        local = e;
        process = process_within w q h lq;
        here = here;
        places = ap length same;
        place = subst (λ (l : List Place). i < length l) (sym same) at;
        node = subst (λ (z : Place). z.node < length w.objects) (sym here)
            (subst (λ (k : ℕ). (place_of (protocol_of p.plan) q i).node < k) (sym h.objects_are)
            node);
        registers = ap (λ (k : ℕ). 2 * k) h.objects_are ∙ sym h.registers_are;
        role = subst (λ (z : Place). z.role < n) (sym here) (sound.roles_below q i (lq, at));
        state = subst (λ (z : Place). state_at w.objects z.node < states) (sym here)
            (h.states (place_of (protocol_of p.plan) q i).node node);
      }

-- a local state that was read
pub local_read : (w : World) (q r : ℕ) (found l : Local) → r ≡ q → q < length w.locals
    → found ≡ slice_index_or w.locals r found → found ≡ l → local_at w q ≡ l
local_read w q r found l e within read is =
    get_or_default w.locals q (Decided 0) found within
    ∙ (ap (λ (k : ℕ). slice_index_or w.locals k found) (sym e) ∙ (sym read ∙ is))
