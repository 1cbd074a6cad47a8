-- The world of a round: its nodes, its processes, and its record.
use Rattle.std.specs.Prelude.{ℕ, List, slice_index_or, Option, Some, None}
use Rattle.cn_choice.specs.declared.team.Team.{Team}
use Rattle.cn_choice.specs.declared.team.Team.TheVariants.{A, B}
use Rattle.cn_proto.specs.Protocol.{ProtocolOfRounds}
use Rattle.cn_agree.specs.declared.node.Node.{Node}
use Rattle.cn_agree.specs.declared.local.Local.{Local}
use Rattle.cn_agree.specs.declared.local.Local.TheVariants.{NotBegun}

-- the object and the registers of each node, the local state of each process, the value that each
-- process began with, and the team of the first application at the root
pub record World (V : Type 0) : Type 0 where
  pub nodes : List (Node V)
  pub locals : List (Local V)
  pub inputs : List (Option V)
  pub first : Option Team

-- a node before any action: its object in the start state, its registers empty
abbrev pub fresh_node : {V : Type 0} → ℕ → Node V
fresh_node start = record { state = record { 0 = start }; register_a = None; register_b = None }

abbrev pub node_at : {V : Type 0} → ProtocolOfRounds → World V → ℕ → Node V
node_at P w v = slice_index_or w.nodes v (fresh_node P.start)

abbrev pub local_at : {V : Type 0} → World V → ℕ → Local V
local_at w p = slice_index_or w.locals p NotBegun

-- the value that process p began with
abbrev pub input_at : {V : Type 0} → World V → ℕ → Option V
input_at w p = slice_index_or w.inputs p None

-- the value in the register of a team
abbrev pub register : {V : Type 0} → Node V → Team → Option V
register node A = node.register_a
register node B = node.register_b

-- the node after a write to the register of a team
abbrev pub with_register : {V : Type 0} → Node V → Team → V → Node V
with_register node A x = record node { register_a = Some x }
with_register node B x = record node { register_b = Some x }
