-- Worlds after steps and crashes, and the decisions in them.
use Rattle.std.specs.Prelude.{ℕ, ◌≡◌, ◌*◌, List, [], ◌∷◌, length, map, replicate}
use Rattle.std.specs.Prelude.{Option, None, Some}
use Rattle.cn_proto.specs.Plan.{nodes_of, processes_of}
use Rattle.cn_agree.specs.Consensus.{IsSchedule}
use Rattle.cn_lives.specs.Plans.{RecordingPlan}
use Rattle.cn_lives.specs.Schedules.{named}
use Rattle.cn_lives.specs.Steps.{World, after_crash, after_step, local_at}
use Rattle.cn_lives.specs.declared.local.Local.{Local}
use Rattle.cn_lives.specs.declared.local.Local.TheVariants.{Active, Decided}
use Rattle.cn_lives.specs.declared.local.Stage.TheVariants.{Write}
use Rattle.cn_lives.specs.declared.schedule.Event.{Event}
use Rattle.cn_lives.specs.declared.schedule.Event.TheVariants.{Step, Crash}

abbrev pub after_event : RecordingPlan → World → Event → World
after_event p w (Step q) = after_step p q w
after_event p w (Crash q) = after_crash q w

-- the world after the events of a schedule, in this order
abbrev pub after_events : RecordingPlan → List Event → World → World
after_events p [] w = w
after_events p (e ∷ es) w = after_events p es (after_event p w e)

-- each process is at its first place with its input, the registers are empty, and each object is in
-- the start state
abbrev pub first_world : RecordingPlan → List ℕ → World
first_world p inputs = record {
  locals = map (λ x. Active 0 x Write) inputs;
  registers = replicate (2 * nodes_of p.plan) None;
  objects = replicate (nodes_of p.plan) (record { 0 = p.plan.choice.state });
  inputs = inputs;
}

-- the world after the events of a schedule, from these inputs
abbrev pub world_after : RecordingPlan → List ℕ → List Event → World
world_after p inputs events = after_events p events (first_world p inputs)

-- lives of the processes of this plan, after these events
pub record AreLivesOf (p : RecordingPlan) (events : List Event) (w : World) : Type 0 where
  pub inputs_are : length w.inputs ≡ processes_of p.plan
  pub schedule : IsSchedule (processes_of p.plan) (named events)
  pub is : w ≡ world_after p w.inputs events

-- lives of the processes of this plan
abbrev pub LiveBy : RecordingPlan → World → Type 0
LiveBy p w = (events : List Event) × AreLivesOf p events w

-- the decision in a local state, if there is one
abbrev pub decision_of : Local → Option ℕ
decision_of (Active i x stage) = None
decision_of (Decided y) = Some y

-- the decision of process q
abbrev pub decision_at : World → ℕ → Option ℕ
decision_at w q = decision_of (local_at w q)

-- the decision of each process of a world
abbrev pub decisions_of : World → List (Option ℕ)
decisions_of w = map decision_of w.locals

-- the decision of each process after this schedule
abbrev pub decisions_after : RecordingPlan → List ℕ → List Event → List (Option ℕ)
decisions_after p inputs schedule = decisions_of (world_after p inputs schedule)
