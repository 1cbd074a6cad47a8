-- What each event of a schedule does: the action of a step, or a crash.
use Rattle.std.specs.Prelude.{ℕ, ◌<◌, All, List, [], ◌∷◌, length, nat_eq, if◌then◌else◌}
use Rattle.std.specs.Prelude.{Option, Some, None, slice_index}
use Rattle.cn_table.specs.TypeTable.{TypeTable}
use Rattle.cn_choice.specs.Canonical.{raw_choice_of}
use Rattle.cn_choice.specs.declared.team.Team.{Team}
use Rattle.cn_choice.specs.declared.team.Team.TheVariants.{B}
use Rattle.cn_proto.specs.Plan.{protocol_of}
use Rattle.cn_proto.specs.Protocol.{place_of}
use Rattle.cn_proto.specs.declared.place.Place.{Place}
use Rattle.cn_agree.specs.Actions.{IsOfTable as IsActionOfTable, taking}
use Rattle.cn_agree.specs.declared.next_action.Action.TheVariants as acts
use Rattle.cn_lives.specs.Plans.{RecordingPlan, judge}
use Rattle.cn_lives.specs.Runs.{after_event, first_world}
use Rattle.cn_lives.specs.Schedules.{process_of}
use Rattle.cn_lives.specs.Steps.{World, held_at, local_at, state_at}
use Rattle.cn_lives.specs.declared.life_action.LifeAction.{LifeAction}
use Rattle.cn_lives.specs.declared.life_action.LifeAction.TheVariants.{Common, ReadStart, ReadEmpty}
use Rattle.cn_lives.specs.declared.life_action.LifeAction.TheVariants.{HasDecided, Crash}
use Rattle.cn_lives.specs.declared.life_action.LifeRecord.{LifeRecord}
use Rattle.cn_lives.specs.declared.life_action.Memory.{Memory}
use Rattle.cn_lives.specs.declared.life_action.Memory.TheVariants.{Value, Decision}
use Rattle.cn_lives.specs.declared.local.Local.{Local}
use Rattle.cn_lives.specs.declared.local.Local.TheVariants.{Active, Decided}
use Rattle.cn_lives.specs.declared.local.Stage.{Stage}
use Rattle.cn_lives.specs.declared.local.Stage.TheVariants.{Write, Look, Peek, Act, Again, Take}
use Rattle.cn_lives.specs.declared.schedule.Event.{Event}
use Rattle.cn_lives.specs.declared.schedule.Event.TheVariants.{Step, Crash as CrashEvent}

-- ---- one step

-- a process reads state q before its operation: it is the start state, or tells which team came
-- first
abbrev pub look : RecordingPlan → ℕ → ℕ → LifeAction
look p node q = if nat_eq q (protocol_of p.plan).start then ReadStart node (record { 0 = q })
    else Common (acts.Read node (record { 0 = q }) (judge p q))

-- a process reads the register of a team, from place i of this many: it takes the value, decides it
-- at the last place, or finds none
abbrev pub take_if : ℕ → ℕ → ℕ → Team → Option ℕ → LifeAction
take_if places i node team None = ReadEmpty node team
take_if places i node team (Some y) = Common (taking places i node team y)

-- the action of a process at place i of this many with this value: q is the state of the object at
-- the node, and held is what the registers of the teams hold there
abbrev pub action_at : RecordingPlan → ℕ → ℕ → ℕ → Stage → Place → ℕ → (Team → Option ℕ) → LifeAction
action_at p places i x Write here q held = Common (acts.Write here.node here.team x)
action_at p places i x Look here q held = look p here.node q
action_at p places i x Peek here q held = take_if places i here.node B (held B)
action_at p places i x Act here q held = Common (acts.Apply here.node
    (record { 0 = slice_index (raw_choice_of p.plan.choice).operations here.role })
    (record { 0 = ((protocol_of p.plan).act here.role q).0 })
    (record { 0 = q })
    (record { 0 = ((protocol_of p.plan).act here.role q).1 }))
action_at p places i x Again here q held =
    Common (acts.Read here.node (record { 0 = q }) (judge p q))
action_at p places i x (Take side) here q held = take_if places i here.node side (held side)

-- the action of process q with this local state
abbrev pub action_from : RecordingPlan → World → ℕ → Local → LifeAction
action_from p w q (Active i x stage) =
    let here : Place = place_of (protocol_of p.plan) q i in
    action_at p (length ((protocol_of p.plan).path q)) i x stage here
    (state_at w.objects here.node) (held_at w.registers here.node)
action_from p w q (Decided y) = HasDecided

-- the action of the next step of process q
abbrev pub action_of : RecordingPlan → World → ℕ → LifeAction
action_of p w q = action_from p w q (local_at w q)

-- what process q remembers with this local state: the value with which it is at a node, or the
-- value that it has decided
abbrev pub memory_from : RecordingPlan → ℕ → Local → Memory
memory_from p q (Active i x stage) = Value (place_of (protocol_of p.plan) q i).node x
memory_from p q (Decided y) = Decision y

-- what process q remembers
abbrev pub memory_of : RecordingPlan → World → ℕ → Memory
memory_of p w q = memory_from p q (local_at w q)

-- ---- a schedule

-- what an event does: a process takes its next action, or crashes and forgets what it remembers
abbrev pub event_action : RecordingPlan → World → Event → LifeAction
event_action p w (Step q) = action_of p w q
event_action p w (CrashEvent q) = Crash (memory_of p w q)

-- what each event of a schedule does, from a world on
abbrev pub records_from : RecordingPlan → List Event → World → List LifeRecord
records_from p [] w = []
records_from p (e ∷ schedule) w = record { process = process_of e; action = event_action p w e }
    ∷ records_from p schedule (after_event p w e)

-- the same if each process begins with its input
abbrev pub records_of : RecordingPlan → List ℕ → List Event → List LifeRecord
records_of p inputs schedule = records_from p schedule (first_world p inputs)

-- what each event of a schedule does, and the decisions after it
pub record LifeCourse : Type 0 where
  pub records : List LifeRecord
  pub decisions : List (Option ℕ)

-- ---- operations, responses and states

-- the operation, the response and the states are of the table
abbrev pub IsOfTable : TypeTable → LifeAction → Type 0
IsOfTable t (Common action) = IsActionOfTable t action
IsOfTable t (ReadStart node state) = state.0 < length t.states
IsOfTable t (ReadEmpty node team) = Unit {0}
IsOfTable t HasDecided = Unit {0}
IsOfTable t (Crash forgets) = Unit {0}

-- the same for each event of a schedule
abbrev pub AreOfTable : TypeTable → List LifeRecord → Type 0
AreOfTable t records = All (λ r. IsOfTable t r.action) records
