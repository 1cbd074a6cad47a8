-- The steps of a round: one atomic action of one process at a time.
use Rattle.std.specs.Prelude.{ℕ, zero, suc, ◌+◌, List, [], ◌∷◌, length, slice_set, nat_lt}
use Rattle.std.specs.Prelude.{if◌then◌else◌, Option, Some, None}
use Rattle.cn_choice.specs.declared.team.Team.{Team}
use Rattle.cn_proto.specs.Protocol.{ProtocolOfRounds, place_of}
use Rattle.cn_proto.specs.declared.place.Place.{Place}
use Rattle.cn_agree.specs.declared.node.Node.{Node}
use Rattle.cn_agree.specs.declared.local.Stage.{Stage}
use Rattle.cn_agree.specs.declared.local.Stage.TheVariants.{Write, Apply, Read, Take}
use Rattle.cn_agree.specs.declared.local.Local.{Local}
use Rattle.cn_agree.specs.declared.local.Local.TheVariants.{NotBegun, Active, Decided}
use Rattle.cn_agree.specs.World.{World, node_at, local_at, register, with_register}

-- process p begins with this value; this is no step
abbrev pub after_begin : {V : Type 0} → ℕ → V → World V → World V
after_begin p x w = record w {
  locals = slice_set w.locals p (Active 0 x Write);
  inputs = slice_set w.inputs p (Some x);
}

-- the node after an action of a process at this place with this value: the first action writes the
-- register of its team, the second applies its operation to the object, the third and the fourth
-- only read
abbrev pub node_after : {V : Type 0} → ProtocolOfRounds → Place → V → Stage → Node V → Node V
node_after P here x Write node = with_register node here.team x
node_after P here x Apply node =
    record node { state = record { 0 = (P.act here.role node.state.0).1 } }
node_after P here x (Read response) node = node
node_after P here x (Take response state) node = node

-- a process goes on from place i, of this many, with the value that it took there: to its next
-- place, or from the root to its decision
abbrev pub onward : {V : Type 0} → ℕ → ℕ → V → Local V
onward places i y = if nat_lt (i + 1) places then Active (i + 1) y Write else Decided y

-- it goes on with the value in the register that it read; if the register were empty, it would stay
-- where it is
abbrev pub onward_if_found : {V : Type 0} → ℕ → ℕ → Local V → Option V → Local V
onward_if_found places i stays None = stays
onward_if_found places i stays (Some y) = onward places i y

-- its local state after the action: it keeps the response to its operation, then the state that it
-- reads, and the fourth action reads the register of the team that it judges by these two to have
-- come first
abbrev pub local_after : {V : Type 0} → ProtocolOfRounds → ℕ → ℕ → Place → V
    → Stage → Node V → Local V
local_after P places i here x Write node = Active i x Apply
local_after P places i here x Apply node =
    Active i x (Read (record { 0 = (P.act here.role node.state.0).0 }))
local_after P places i here x (Read response) node = Active i x (Take response node.state)
local_after P places i here x (Take response state) node =
    onward_if_found places i (Active i x (Take response state))
    (register node (P.judge here.role response.0 state.0))

-- an application at the root is recorded if none is recorded yet
abbrev pub first_recorded : Option Team → ℕ → Team → Option Team
first_recorded None zero team = Some team
first_recorded None (suc node) team = None
first_recorded (Some first) node team = Some first

abbrev pub first_after : Option Team → Place → Stage → Option Team
first_after first here Write = first
first_after first here Apply = first_recorded first here.node here.team
first_after first here (Read response) = first
first_after first here (Take response state) = first

-- the action of process p, which is at place i of its path with this value
abbrev pub after_action : {V : Type 0} → ProtocolOfRounds → ℕ → World V → ℕ → V
    → Stage → Place → World V
after_action P p w i x stage here =
    record w {
      nodes = slice_set w.nodes here.node (node_after P here x stage (node_at P w here.node));
      locals = slice_set w.locals p
          (local_after P (length (P.path p)) i here x stage (node_at P w here.node));
      first = first_after w.first here stage;
    }

-- the step of process p with this local state: nothing before it has begun and after it has decided
abbrev pub after_step_from : {V : Type 0} → ProtocolOfRounds → ℕ → World V → Local V → World V
after_step_from P p w NotBegun = w
after_step_from P p w (Active i x stage) = after_action P p w i x stage (place_of P p i)
after_step_from P p w (Decided y) = w

-- the world after one atomic step of process p
abbrev pub after_step : {V : Type 0} → ProtocolOfRounds → ℕ → World V → World V
after_step P p w = after_step_from P p w (local_at w p)

-- the world after the steps of a schedule
abbrev pub after_schedule : {V : Type 0} → ProtocolOfRounds → List ℕ → World V → World V
after_schedule P [] w = w
after_schedule P (p ∷ schedule) w = after_schedule P schedule (after_step P p w)
