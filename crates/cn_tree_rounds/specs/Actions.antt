-- The actions of the steps of a schedule, one by one.
use Rattle.std.specs.Prelude.{ℕ, ◌+◌, ◌<◌, All, IfSome, List, length, map, nat_lt, slice_index, take}
use Rattle.std.specs.Prelude.{if◌then◌else◌, Option, Some, None, option_map}
use Rattle.std.specs.List.{range_with_len}
use Rattle.cn_table.specs.TypeTable.{TypeTable, transition}
use Rattle.cn_meetings.specs.Meeting.{Sight, act, see}
use Rattle.cn_meetings.specs.Meeting.Sight.{Nothing, Response, State}
use Rattle.cn_trees.specs.Steps.{Local, Stage, World, after_schedule, first_world, looks_at}
use Rattle.cn_trees.specs.Steps.Local.{Active, Decided}
use Rattle.cn_trees.specs.Steps.Stage.{Write, Apply, Look, Take}
use Rattle.cn_trees.specs.Tree.{Place, PlanTree, path_of, place_of}
use Rattle.cn_tree_plans.specs.Plan.{TreePlan, tree_of}
use Rattle.cn_tree_rounds.specs.Schedules.{input_of}
use Rattle.cn_tree_rounds.specs.declared.action.Action.{Action}
use Rattle.cn_tree_rounds.specs.declared.action.Action.TheVariants as acts
use Rattle.cn_tree_rounds.specs.declared.action.StepRecord.{StepRecord}

-- ---- one step

-- a process that does not look judges by the response alone which team came first
abbrev pub judged_behind : PlanTree → ℕ → ℕ → ℕ → Option ℕ
judged_behind T node p response =
    if looks_at T node p then None else Some (T.judge node p response 0)

-- a process that takes a value from the register of a team goes on from place i, of this many
-- places, and decides it at the last place
abbrev pub taking : ℕ → ℕ → ℕ → ℕ → ℕ → Action
taking places i node team y = if nat_lt (i + 1) places then acts.Take node team y else acts.Decide y

-- a process with this sight looks at the object of a node in this state, and judges that this team
-- came first: it reads the state, or does a further operation with this response
abbrev pub look_by : TypeTable → ℕ → ℕ → ℕ → Sight → Action
look_by t node state team State = acts.Read node (record { 0 = state }) team
look_by t node state team Nothing = acts.Read node (record { 0 = state }) team
look_by t node state team (Response o) =
    acts.Look node (record { 0 = o }) (record { 0 = (transition t o state).0 }) team

-- so process p looks at a node, and judges by the response to its operation and by what it sees
abbrev pub looking : PlanTree → ℕ → ℕ → ℕ → ℕ → Action
looking T node p response state =
    look_by T.table node state
    (T.judge node p response (see T.table (T.meeting node) p state)) ((T.meeting node).sight p)

-- the action of process p at place i of its path with this value, where the object of the node is
-- in this state and the registers of its teams hold this: it writes its value to the register of
-- its team; it applies its operation, with this response and this state after it; it looks at the
-- object, and judges by the response and by what it sees which team came first; it takes the value
-- in the register of this team
abbrev pub action_at : PlanTree → ℕ → ℕ → ℕ → (ℕ → Option ℕ) → ℕ → Stage → Place → Option Action
action_at T p i state registers x Write here = Some (acts.Write here.node here.team x)
action_at T p i state registers x Apply here =
    let response = (act T.table (T.meeting here.node) p state).0 in
    Some (acts.Apply here.node (record { 0 = (T.meeting here.node).operation p })
    (record { 0 = response }) (record { 0 = state })
    (record { 0 = (act T.table (T.meeting here.node) p state).1 })
    (judged_behind T here.node p response))
action_at T p i state registers x (Look response) here =
    Some (looking T here.node p response state)
action_at T p i state registers x (Take response saw) here =
    let team = T.judge here.node p response saw in
    option_map (taking (length (path_of T p)) i here.node team) (registers team)

-- the action of process p with this local state: none if it has decided
abbrev pub action_from : PlanTree → ℕ → World ℕ → Local ℕ → Option Action
action_from T p w (Active i x stage) =
    let here = place_of T p i in
    action_at T p i (w.states here.node) (w.registers here.node) x stage here
action_from T p w (Decided y) = None

-- the action of the next step of process p
abbrev pub action_of : PlanTree → ℕ → World ℕ → Option Action
action_of T p w = action_from T p w (w.locals p)

-- ---- a schedule

-- step i of a schedule, from a world on: the process that the schedule names there, and its action
-- in the world after the i steps before
abbrev pub record_at : PlanTree → List ℕ → World ℕ → ℕ → StepRecord
record_at T schedule w i =
    let p = slice_index schedule i in
    record { process = p; action = action_of T p (after_schedule T (take i schedule) w) }

-- each step of the schedule
abbrev pub records_from : PlanTree → List ℕ → World ℕ → List StepRecord
records_from T schedule w = map (record_at T schedule w) (range_with_len 0 (length schedule))

-- the same where the processes have these inputs and none has taken a step
abbrev pub records_of : TreePlan → List ℕ → List ℕ → List StepRecord
records_of plan inputs schedule =
    records_from (tree_of plan) schedule (first_world (tree_of plan) (input_of inputs))

-- ---- operations, responses and states

-- the operation, the response and the states are of the table
abbrev pub IsOfTable : TypeTable → Action → Type 0
IsOfTable t (acts.Write node team x) = Unit {0}
IsOfTable t (acts.Apply node operation response before after team) =
    (operation.0 < length t.operations) × (response.0 < length t.responses)
    × (before.0 < length t.states) × (after.0 < length t.states)
IsOfTable t (acts.Read node state team) = state.0 < length t.states
IsOfTable t (acts.Look node operation response team) =
    (operation.0 < length t.operations) × (response.0 < length t.responses)
IsOfTable t (acts.Take node team x) = Unit {0}
IsOfTable t (acts.Decide x) = Unit {0}

-- the same for each action of a schedule
abbrev pub AreOfTable : TypeTable → List StepRecord → Type 0
AreOfTable t records = All (λ r. IfSome r.action (IsOfTable t)) records
