-- The actions of the steps of a schedule, one by one.
use Rattle.std.specs.Prelude.{ℕ, ◌+◌, ◌<◌, All, IfSome, List, [], ◌∷◌, length, nat_lt}
use Rattle.std.specs.Prelude.{if◌then◌else◌, slice_index, Option, Some, None, option_map}
use Rattle.cn_table.specs.TypeTable.{TypeTable}
use Rattle.cn_choice.specs.Canonical.{raw_choice_of}
use Rattle.cn_choice.specs.declared.team.Team.{Team}
use Rattle.cn_proto.specs.Plan.{Plan, nodes_of, protocol_of}
use Rattle.cn_proto.specs.Protocol.{place_of}
use Rattle.cn_proto.specs.declared.place.Place.{Place}
use Rattle.cn_agree.specs.declared.local.Stage.{Stage}
use Rattle.cn_agree.specs.declared.local.Stage.TheVariants.{Write, Apply, Read, Take}
use Rattle.cn_agree.specs.declared.local.Local.{Local}
use Rattle.cn_agree.specs.declared.local.Local.TheVariants.{NotBegun, Active, Decided}
use Rattle.cn_agree.specs.declared.next_action.Action.{Action}
use Rattle.cn_agree.specs.declared.next_action.Action.TheVariants as acts
use Rattle.cn_agree.specs.declared.node.Node.{Node}
use Rattle.cn_agree.specs.declared.next_action.StepRecord.{StepRecord}
use Rattle.cn_agree.specs.Schedules.{all_begun}
use Rattle.cn_agree.specs.Steps.{after_step}
use Rattle.cn_agree.specs.World.{World, node_at, local_at, register}

-- ---- one step

-- a process that takes a value from the register of a team goes on from place i, of this many
-- places, and decides it at the last place
abbrev pub taking : {V : Type 0} → ℕ → ℕ → ℕ → Team → V → Action V
taking places i node team y = if nat_lt (i + 1) places then acts.Take node team y else acts.Decide y

-- the action of a process at this place with this value, at place i of this many and with this
-- node: it writes its value to the register of its team; it applies the operation of its role, with
-- this response and these states before and after; it reads the state, and judges by state and
-- response which team came first; it takes the value in the register of this team
abbrev pub action_at : {V : Type 0} → Plan → ℕ → ℕ → Place → V → Stage → Node V → Option (Action V)
action_at plan places i here x Write node = Some (acts.Write here.node here.team x)
action_at plan places i here x Apply node =
    Some (acts.Apply here.node
    (record { 0 = slice_index (raw_choice_of plan.choice).operations here.role })
    (record { 0 = ((protocol_of plan).act here.role node.state.0).0 })
    node.state
    (record { 0 = ((protocol_of plan).act here.role node.state.0).1 }))
action_at plan places i here x (Read response) node =
    Some (acts.Read here.node node.state
    ((protocol_of plan).judge here.role response.0 node.state.0))
action_at plan places i here x (Take response state) node =
    option_map (taking places i here.node ((protocol_of plan).judge here.role response.0 state.0))
    (register node ((protocol_of plan).judge here.role response.0 state.0))

-- the action of process p with this local state: none before it has begun and after it has decided
abbrev pub action_from : {V : Type 0} → Plan → World V → ℕ → Local V → Option (Action V)
action_from plan w p NotBegun = None
action_from plan w p (Active i x stage) =
    action_at plan (length ((protocol_of plan).path p)) i (place_of (protocol_of plan) p i) x stage
    (node_at (protocol_of plan) w (place_of (protocol_of plan) p i).node)
action_from plan w p (Decided y) = None

-- the action of the next step of process p
abbrev pub action_of : {V : Type 0} → Plan → World V → ℕ → Option (Action V)
action_of plan w p = action_from plan w p (local_at w p)

-- ---- a schedule

-- the action of each step of a schedule, from a world on
abbrev pub records_from : {V : Type 0} → Plan → List ℕ → World V → List (StepRecord V)
records_from plan [] w = []
records_from plan (p ∷ schedule) w =
    record { process = p; action = action_of plan w p }
    ∷ records_from plan schedule (after_step (protocol_of plan) p w)

-- the same if each process has begun with its input
abbrev pub records_of : {V : Type 0} → Plan → List V → List ℕ → List (StepRecord V)
records_of plan inputs schedule =
    records_from plan schedule (all_begun (protocol_of plan) (nodes_of plan) inputs)

-- the steps of a schedule, and the decisions after it
pub record Course : Type 0 where
  pub records : List (StepRecord ℕ)
  pub decisions : List (Option ℕ)

-- ---- operations, responses and states

-- the operation, the response and the states are of the table
abbrev pub IsOfTable : {V : Type 0} → TypeTable → Action V → Type 0
IsOfTable t (acts.Write node team x) = Unit {0}
IsOfTable t (acts.Apply node operation response before after) =
    (operation.0 < length t.operations) × (response.0 < length t.responses)
    × (before.0 < length t.states) × (after.0 < length t.states)
IsOfTable t (acts.Read node state team) = state.0 < length t.states
IsOfTable t (acts.Take node team x) = Unit {0}
IsOfTable t (acts.Decide x) = Unit {0}

-- the same for each action of a schedule
abbrev pub AreOfTable : {V : Type 0} → TypeTable → List (StepRecord V) → Type 0
AreOfTable t records = All (λ r. IfSome r.action (IsOfTable t)) records
