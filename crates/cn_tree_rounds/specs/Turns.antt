-- The next action of a process at its place.
use Rattle.std.specs.Prelude.{ℕ, ◌≡◌, ◌<◌, length, Option, Some, None, slice_set}
use Rattle.cn_meetings.specs.Meeting.{act, see}
use Rattle.cn_trees.specs.Steps.{Local, Stage, behind, onward_if_found}
use Rattle.cn_trees.specs.Steps.Local.{Active, Decided}
use Rattle.cn_trees.specs.Steps.Stage.{Write, Apply, Look, Take}
use Rattle.cn_trees.specs.Tree.{Place, PlanTree, path_of, place_of, processes_of}
use Rattle.cn_tree_plans.specs.Paths.{IsPlaceOf, place_of as place_stored}
use Rattle.cn_tree_plans.specs.Plan.{TreePlan, tree_of}
use Rattle.cn_tree_rounds.specs.Actions.{action_at}
use Rattle.cn_tree_rounds.specs.Worlds.{LooksWell, local_in, register, stage_of}
use Rattle.cn_tree_rounds.specs.declared.action.Action.{Action}
use Rattle.cn_tree_rounds.specs.declared.node.Node.{Node}
use Rattle.cn_tree_rounds.specs.declared.turn.Turn.{Turn}
use Rattle.cn_tree_rounds.specs.declared.world.World.{World}

-- the turn of a process of the plan, at a place of its path
pub record IsTurn (plan : TreePlan) (turn : Turn) : Type 0 where
  pub process : turn.process < processes_of (tree_of plan)
  pub here : place_stored turn.here ≡ place_of (tree_of plan) turn.process turn.place
  pub known : IsPlaceOf plan.teams turn.process turn.here
  pub places : turn.places ≡ length (path_of (tree_of plan) turn.process)
  pub place : turn.place < turn.places
  pub looks : LooksWell (tree_of plan) turn.here.node turn.process (stage_of turn.stage)

-- the node after the action of process p at this place with this value
abbrev pub node_at : PlanTree → ℕ → Place → ℕ → Stage → Node → Node
node_at T p here x Write node =
    record node { registers = slice_set node.registers here.team (Some x) }
node_at T p here x Apply node =
    record node {
      state = record { 0 = (act T.table (T.meeting here.node) p node.state.0).1 };
    }
node_at T p here x (Look response) node = node
node_at T p here x (Take response saw) node = node

-- its local state after the action, at place i of its path
abbrev pub local_at : PlanTree → ℕ → ℕ → Place → ℕ → Stage → Node → Local ℕ
local_at T p i here x Write node = Active i x Apply
local_at T p i here x Apply node =
    Active i x (behind T p here (act T.table (T.meeting here.node) p node.state.0).0)
local_at T p i here x (Look response) node =
    Active i x (Take response (see T.table (T.meeting here.node) p node.state.0))
local_at T p i here x (Take response saw) node =
    onward_if_found (length (path_of T p)) i (Active i x (Take response saw))
    (register node (T.judge here.node p response saw))

-- the same at a turn, and the action
abbrev pub node_after : TreePlan → Turn → Node → Node
node_after plan turn node =
    node_at (tree_of plan) turn.process (place_stored turn.here) turn.value (stage_of turn.stage) node

abbrev pub local_after : TreePlan → Turn → Node → Local ℕ
local_after plan turn node =
    local_at (tree_of plan) turn.process turn.place (place_stored turn.here) turn.value
    (stage_of turn.stage) node

abbrev pub action_at_turn : TreePlan → Turn → Node → Option Action
action_at_turn plan turn node =
    action_at (tree_of plan) turn.process turn.place node.state.0 (register node) turn.value
    (stage_of turn.stage) (place_stored turn.here)

-- the turn of process p in this world, or none if it has decided
abbrev pub IsTurnOf : TreePlan → World → ℕ → Option Turn → Type 0
IsTurnOf plan w p None = (y : ℕ) × (local_in w.locals.items p ≡ Decided y)
IsTurnOf plan w p (Some turn) = IsTurn plan turn × (turn.process ≡ p)
    × (local_in w.locals.items p ≡ Active turn.place turn.value (stage_of turn.stage))
