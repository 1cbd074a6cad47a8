-- Lives while a schedule runs.
use Rattle.std.proofs.Common.{◌≡◌, ℕ, ◌+◌, ◌<◌, List, [], ◌∷◌, ◌++◌, length, refl, sym, ap, ◌∙◌}
use Rattle.std.proofs.Common.{get_or, drop}
use Rattle.std.specs.Prelude.{All}
use Rattle.std.specs.List.{AllByRecursion}
use Rattle.std.proofs.lemmas.List.{drop_more}
use Rattle.std.proofs.lemmas.List.Elements.{All-from_recursion}
use Rattle.cn_proto.specs.Plan.{processes_of}
use Rattle.cn_agree.specs.Consensus.{IsSchedule}
use Rattle.cn_lives.specs.Plans.{RecordingPlan}
use Rattle.cn_lives.specs.Runs.{AreLivesOf, LiveBy, after_event, after_events, first_world}
use Rattle.cn_lives.specs.Runs.{world_after}
use Rattle.cn_lives.specs.Schedules.{named, process_of}
use Rattle.cn_lives.specs.declared.schedule.Event.{Event}
use Rattle.cn_lives.specs.declared.schedule.Event.TheVariants.{Step, Crash}
use Rattle.cn_lives.specs.Steps.{World, after_step_from, local_at}
use Rattle.cn_lives.specs.declared.local.Local.{Local}
use Rattle.cn_lives.specs.declared.local.Local.TheVariants.{Active, Decided}

pub after_events-append : (p : RecordingPlan) (es us : List Event) (w : World)
    → after_events p (es ++ us) w ≡ after_events p us (after_events p es w)
after_events-append p [] us w = refl
after_events-append p (e ∷ es) us w = after_events-append p es us (after_event p w e)

pub inputs_kept : (p : RecordingPlan) (w : World) (e : Event)
    → (after_event p w e).inputs ≡ w.inputs
inputs_kept p w (Step q) = go (local_at w q)
  where
    go : (l : Local) → (after_step_from p q w l).inputs ≡ w.inputs
    go (Active i x stage) = refl
    go (Decided y) = refl
inputs_kept p w (Crash q) = refl

-- the schedule of two parts
pub schedule-append : (n : ℕ) (es us : List Event) → IsSchedule n (named es)
    → IsSchedule n (named us) → IsSchedule n (named (es ++ us))
schedule-append n [] us k h = h
schedule-append n (e ∷ es) us k h = (k.0, schedule-append n es us k.1 h)

-- one event more
pub lives_event : (p : RecordingPlan) (events : List Event) (w : World) (e : Event)
    → process_of e < processes_of p.plan → AreLivesOf p events w
    → AreLivesOf p (events ++ e ∷ []) (after_event p w e)
lives_event p events w e l lives =
    let same = inputs_kept p w e in
    record {
      inputs_are = ap (λ (xs : List ℕ). length xs) same ∙ lives.inputs_are;
      schedule = schedule-append (processes_of p.plan) events (e ∷ []) lives.schedule (l, tt);
      is = ap (λ (z : World). after_event p z e) lives.is
          ∙ (sym (after_events-append p events (e ∷ []) (first_world p w.inputs))
          ∙ ap (λ (xs : List ℕ). world_after p xs (events ++ e ∷ [])) (sym same));
    }

-- the worlds of a run after k events of the schedule
pub record HasRun (p : RecordingPlan) (from : World) (schedule : List Event) (k : ℕ) (w : World)
    : Type 0 where
  pub rest : after_events p (drop k schedule) w ≡ after_events p schedule from
  pub live : LiveBy p w

pub one_more_event : (p : RecordingPlan) (from : World) (schedule : List Event) (k : ℕ)
    (e : Event) (w w' : World) → k < length schedule → e ≡ get_or schedule k e
    → HasRun p from schedule k w → w' ≡ after_event p w e
    → LiveBy p w' → HasRun p from schedule (k + 1) w'
one_more_event p from schedule k e w w' less read h is live =
    let rest = drop (k + 1) schedule in
    record {
      rest = ap (after_events p rest) is
          ∙ (ap (λ (z : Event). after_events p rest (after_event p w z)) read
          ∙ (sym (ap (λ (s : List Event). after_events p s w) (drop_more schedule k e less))
          ∙ h.rest));
      live = live;
    }

-- a schedule that names only processes
pub all_named : (n : ℕ) (schedule : List Event) → IsSchedule n (named schedule)
    → All (λ e. process_of e < n) schedule
all_named n schedule h = All-from_recursion (λ e. process_of e < n) schedule (each schedule h)
  where
    each : (s : List Event) → IsSchedule n (named s) → AllByRecursion (λ e. process_of e < n) s
    each [] h = tt
    each (e ∷ s) h = (h.0, each s h.1)
