-- The protocol of a plan tree, as a protocol of the model of all protocols: one object for each
-- node, and one register for each team of a node. It has the local states of rounds.
-- Source: Ruppert, Determining consensus numbers, 2000, with a look in place of a read.
use Rattle.std.specs.Prelude.{◌≡◌, ◌≢◌, ℕ, zero, suc, ◌+◌, ◌*◌, ◌≤◌, Bool, length, Option, None}
use Rattle.std.specs.Prelude.{Some}
use Rattle.cn_table.specs.TypeTable.{TypeTable}
use Rattle.cn_agree.specs.declared.local.Local.{Local as LocalOf}
use Rattle.cn_agree.specs.declared.local.Local.TheVariants.{NotBegun, Active as At, Decided as Done}
use Rattle.cn_agree.specs.declared.local.Stage.{Stage as StageOf}
use Rattle.cn_agree.specs.declared.local.Stage.TheVariants.{Write as ToWrite, Apply as ToApply}
use Rattle.cn_agree.specs.declared.local.Stage.TheVariants.{Read as ToRead, Take as ToTake}
use Rattle.cn_consensus.specs.Protocol.{Action, Protocol}
use Rattle.cn_consensus.specs.Protocol.Action.{Decide, ReadRegister, WriteRegister, ApplyOperation}
use Rattle.cn_consensus.specs.Protocol.Action.{ReadObject}
use Rattle.cn_meetings.specs.Meeting.{Sight}
use Rattle.cn_meetings.specs.Meeting.Sight.{Nothing, Response, State}
use Rattle.cn_meetings.specs.Witness.{Has}
use Rattle.cn_trees.specs.Steps.{Local, Stage, behind, onward_if_found}
use Rattle.cn_trees.specs.Steps.Local.{Active, Decided}
use Rattle.cn_trees.specs.Steps.Stage.{Write, Apply, Look, Take}
use Rattle.cn_trees.specs.Tree.{AreWitnesses, IsOfType, Place, PlanTree, comes_to, path_of}
use Rattle.cn_trees.specs.Tree.{place_of}
use Rattle.cn_trees.specs.Tree.{processes_of}

-- the number of the register of a team at a node: no two have one number
abbrev pub register_of : ℕ → ℕ → ℕ
register_of zero team = 2 * team
register_of (suc node) team = 2 * register_of node team + 1

-- a local state as one of a round: what a process saw stands in place of the state that it read
abbrev pub stage_of : Stage → StageOf
stage_of Write = ToWrite
stage_of Apply = ToApply
stage_of (Look response) = ToRead (record { 0 = response })
stage_of (Take response saw) = ToTake (record { 0 = response }) (record { 0 = saw })

abbrev pub local_of : Local Bool → LocalOf Bool
local_of (Active i x s) = At i x (stage_of s)
local_of (Decided y) = Done y

-- the look of a process at the object of a node: k gives its next local state by what it sees. One
-- that sees nothing reads a register, and forgets it.
abbrev pub look_action : Sight → ℕ → (ℕ → LocalOf Bool) → Action (LocalOf Bool) (Option Bool)
look_action State node k = ReadObject node k
look_action Nothing node k = ReadRegister 0 (λ y. k 0)
look_action (Response o) node k = ApplyOperation node o k

-- the action of process p, which is at place i of its path with value x
abbrev pub stage_action : PlanTree → ℕ → ℕ → Bool → Stage → Place
    → Action (LocalOf Bool) (Option Bool)
stage_action T p i x Write here =
    WriteRegister (register_of here.node here.team) (Some x) (local_of (Active i x Apply))
stage_action T p i x Apply here = ApplyOperation here.node ((T.meeting here.node).operation p)
    (λ r. local_of (Active i x (behind T p here r)))
stage_action T p i x (Look response) here =
    look_action ((T.meeting here.node).sight p) here.node
    (λ saw. local_of (Active i x (Take response saw)))
stage_action T p i x (Take response saw) here =
    ReadRegister (register_of here.node (T.judge here.node p response saw))
    (λ y. local_of (onward_if_found (length (path_of T p)) i (Active i x (Take response saw)) y))

abbrev pub place_action : PlanTree → ℕ → ℕ → Bool → StageOf → Action (LocalOf Bool) (Option Bool)
place_action T p i x ToWrite = stage_action T p i x Write (place_of T p i)
place_action T p i x ToApply = stage_action T p i x Apply (place_of T p i)
place_action T p i x (ToRead response) =
    stage_action T p i x (Look response.0) (place_of T p i)
place_action T p i x (ToTake response saw) =
    stage_action T p i x (Take response.0 saw.0) (place_of T p i)

-- the action of process p in this local state; a process that has not begun stays so
abbrev pub local_action : PlanTree → ℕ → LocalOf Bool → Action (LocalOf Bool) (Option Bool)
local_action T p NotBegun = ReadRegister 0 (λ y. NotBegun)
local_action T p (At i x s) = place_action T p i x s
local_action T p (Done y) = Decide y

-- all processes have begun, the registers are empty, and each object is in its start state
abbrev pub tree_protocol : PlanTree → Protocol (LocalOf Bool) (Option Bool)
tree_protocol T = record {
  start = λ p x. At 0 x ToWrite;
  action = λ p l. local_action T p l;
  registers = λ i. None;
  objects = λ node. (T.meeting node).start;
}

-- no process reads a state where it comes
abbrev pub ReadsNoState : PlanTree → Type 0
ReadsNoState T = (node p : ℕ) → Has (comes_to T.teams node) p → (T.meeting node).sight p ≢ State

-- some tree of the type for n processes or more has witnesses at its nodes
abbrev pub HasTreeOfWitnesses : TypeTable → ℕ → Type 0
HasTreeOfWitnesses t n = (T : PlanTree) × (T.table ≡ t) × IsOfType T × AreWitnesses T
    × (n ≤ processes_of T)
