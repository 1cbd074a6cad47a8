-- The world of a plan tree in memory, and the world of the model that it stands for.
use Rattle.std.specs.Prelude.{ℕ, ◌≡◌, ◌<◌, All, List, length, replicate, Option, None}
use Rattle.std.specs.Prelude.{slice_index_or, true}
use Rattle.cn_choice.specs.declared.limits.TheConstants.{MOST_PROCESSES}
use Rattle.cn_trees.specs.Steps.{Local, Stage, World, looks_at}
use Rattle.cn_trees.specs.Steps.Local.{Active, Decided}
use Rattle.cn_trees.specs.Steps.Stage.{Write, Apply, Look, Take}
use Rattle.cn_trees.specs.Tree.{PlanTree, nodes_of, path_of, place_of, processes_of}
use Rattle.cn_tree_plans.specs.Plan.{TreePlan, meeting_in, tree_of}
use Rattle.cn_tree_rounds.specs.declared.local.Local.{Local as StoredLocal}
use Rattle.cn_tree_rounds.specs.declared.local.Local.TheVariants as local
use Rattle.cn_tree_rounds.specs.declared.local.Stage.{Stage as StoredStage}
use Rattle.cn_tree_rounds.specs.declared.local.Stage.TheVariants as stage
use Rattle.cn_tree_rounds.specs.declared.node.Node.{Node}
use Rattle.cn_tree_rounds.specs.declared.world.World.{World as StoredWorld}

-- ---- what is stored

abbrev pub stage_of : StoredStage → Stage
stage_of stage.Write = Write
stage_of stage.Apply = Apply
stage_of (stage.Look response) = Look response.0
stage_of (stage.Take response saw) = Take response.0 saw

abbrev pub local_of : StoredLocal → Local ℕ
local_of (local.Active i x s) = Active i x (stage_of s)
local_of (local.Decided y) = Decided y

-- a node before any step
abbrev pub fresh_node : ℕ → Node
fresh_node start =
    record { state = record { 0 = start }; registers = replicate MOST_PROCESSES None }

-- the value in the register of a team
abbrev pub register : Node → ℕ → Option ℕ
register node team = slice_index_or node.registers team None

-- node v of these
abbrev pub node_in : TreePlan → List Node → ℕ → Node
node_in plan nodes v =
    slice_index_or nodes v (fresh_node (meeting_in plan.teams plan.meetings v).start)

-- the local state of process p, which has value 0 if it is none of these
abbrev pub local_in : List StoredLocal → ℕ → Local ℕ
local_in locals p = local_of (slice_index_or locals p (local.Active 0 0 stage.Write))

-- the world with these nodes and processes
abbrev pub world_with : TreePlan → List Node → List StoredLocal → World ℕ
world_with plan nodes locals = record {
  states = λ v. (node_in plan nodes v).state.0;
  registers = λ v team. register (node_in plan nodes v) team;
  locals = local_in locals;
}

abbrev pub world_of : TreePlan → StoredWorld → World ℕ
world_of plan w = world_with plan w.nodes.items w.locals.items

-- ---- what is kept

-- the object is in a state of the type, and there is a register for each team
pub record FitsType (plan : TreePlan) (node : Node) : Type 0 where
  pub state : node.state.0 < length plan.table.states
  pub registers : length node.registers ≡ MOST_PROCESSES

-- a process looks only where its meeting lets it look
abbrev pub LooksWell : PlanTree → ℕ → ℕ → Stage → Type 0
LooksWell T v p Write = Unit {0}
LooksWell T v p Apply = Unit {0}
LooksWell T v p (Look response) = looks_at T v p ≡ true
LooksWell T v p (Take response saw) = Unit {0}

-- it is at a place of its path, or has decided
abbrev pub IsUnderWay : PlanTree → ℕ → Local ℕ → Type 0
IsUnderWay T p (Active i x s) =
    (i < length (path_of T p)) × LooksWell T (place_of T p i).node p s
IsUnderWay T p (Decided y) = Unit {0}

-- these are the nodes and the processes of the plan
pub record AreOfPlan (plan : TreePlan) (nodes : List Node)
    (locals : List StoredLocal) : Type 0 where
  pub node_count : length nodes ≡ nodes_of (tree_of plan)
  pub process_count : length locals ≡ processes_of (tree_of plan)
  pub each_node : All (FitsType plan) nodes
  pub each_process : (p : ℕ) → p < processes_of (tree_of plan)
      → IsUnderWay (tree_of plan) p (local_in locals p)

abbrev pub IsOfPlan : TreePlan → StoredWorld → Type 0
IsOfPlan plan w = AreOfPlan plan w.nodes.items w.locals.items
