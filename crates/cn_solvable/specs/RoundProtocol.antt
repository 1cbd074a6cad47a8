-- The protocol of a round, as a protocol of the model of all protocols: one object and two
-- registers for each node.
-- Source: Ruppert, Determining consensus numbers, 2000: the tournament over a witness.
use Rattle.std.specs.Prelude.{◌≡◌, ℕ, ◌+◌, ◌*◌, ◌<◌, List, Bool, length, map, Option, None, Some}
use Rattle.std.specs.Prelude.{slice_index}
use Rattle.std.specs.List.{range_with_len}
use Rattle.cn_choice.specs.declared.team.Team.{Team}
use Rattle.cn_choice.specs.declared.team.Team.TheVariants.{A, B}
use Rattle.cn_choice.specs.Canonical.{raw_choice_of}
use Rattle.cn_proto.specs.Plan.{Plan, nodes_of, protocol_of}
use Rattle.cn_proto.specs.Protocol.{ProtocolOfRounds, place_of}
use Rattle.cn_proto.specs.declared.place.Place.{Place}
use Rattle.cn_agree.specs.Schedules.{all_begun}
use Rattle.cn_agree.specs.Steps.{after_schedule, onward_if_found}
use Rattle.cn_agree.specs.World.{World, local_at, node_at, register}
use Rattle.cn_agree.specs.declared.local.Local.{Local}
use Rattle.cn_agree.specs.declared.local.Local.TheVariants.{NotBegun, Active, Decided}
use Rattle.cn_agree.specs.declared.local.Stage.{Stage}
use Rattle.cn_agree.specs.declared.local.Stage.TheVariants.{Write, Apply, Read, Take}
use Rattle.cn_consensus.specs.Configuration.{Configuration}
use Rattle.cn_consensus.specs.Protocol.{Action, Protocol}
use Rattle.cn_consensus.specs.Protocol.Action.{Decide, ReadRegister, WriteRegister, ApplyOperation}
use Rattle.cn_consensus.specs.Protocol.Action.{ReadObject}

-- the number of the register of a team at node v
abbrev pub register_of : ℕ → Team → ℕ
register_of v A = 2 * v
register_of v B = 2 * v + 1

-- the action of a process that is at place i of this many with value x: op gives the operation of
-- each role
abbrev pub stage_action : ProtocolOfRounds → (ℕ → ℕ) → ℕ → ℕ → Bool → Stage → Place
    → Action (Local Bool) (Option Bool)
stage_action R op places i x Write here = WriteRegister (register_of here.node here.team) (Some x)
    (Active i x Apply)
stage_action R op places i x Apply here = ApplyOperation here.node (op here.role) (λ r.
    Active i x (Read (record { 0 = r })))
stage_action R op places i x (Read response) here =
    ReadObject here.node (λ q. Active i x (Take response (record { 0 = q })))
stage_action R op places i x (Take response state) here =
    ReadRegister (register_of here.node (R.judge here.role response.0 state.0))
    (onward_if_found places i (Active i x (Take response state)))

-- the action of process p in this local state; a process that has not begun stays so
abbrev pub local_action : ProtocolOfRounds → (ℕ → ℕ) → ℕ → Local Bool
    → Action (Local Bool) (Option Bool)
local_action R op p NotBegun = ReadRegister 0 (λ y. NotBegun)
local_action R op p (Active i x stage) = stage_action R op (length (R.path p)) i x stage
    (place_of R p i)
local_action R op p (Decided y) = Decide y

-- all processes have begun, the registers are empty, and each object is in the start state
abbrev pub round_protocol : ProtocolOfRounds → (ℕ → ℕ) → Protocol (Local Bool) (Option Bool)
round_protocol R op = record {
  start = λ p x. Active 0 x Write;
  action = λ p l.
      local_action R op p l;
  registers = λ i. None;
  objects = λ v. R.start;
}

-- the protocol of a plan
abbrev pub plan_protocol : Plan → Protocol (Local Bool) (Option Bool)
plan_protocol plan = round_protocol (protocol_of plan) (λ role.
    slice_index (raw_choice_of plan.choice).operations role)

-- the values at the numbers below n, in a list
abbrev pub listed : {X : Type 0} → ℕ → (ℕ → X) → List X
listed n f = map f (range_with_len 0 n)

-- the configuration has the local states, the objects and the registers of the world of a round of
-- n processes with this many nodes
pub record Mirrors (R : ProtocolOfRounds) (n nodes : ℕ) (w : World Bool)
    (c : Configuration (Local Bool) (Option Bool)) : Type 0 where
  pub processes_are : length w.locals ≡ n
  pub nodes_are : length w.nodes ≡ nodes
  pub local : (p : ℕ) → p < n → c.locals p ≡ local_at w p
  pub state : (v : ℕ) → v < nodes → c.objects v ≡ (node_at R w v).state.0
  pub held : (v : ℕ) → v < nodes → (side : Team)
      → c.registers (register_of v side) ≡ register (node_at R w v) side

-- the world of a round of the plan after a schedule
abbrev pub world_after : Plan → List Bool → List ℕ → World Bool
world_after plan inputs schedule =
    after_schedule (protocol_of plan) schedule (all_begun (protocol_of plan) (nodes_of plan) inputs)
