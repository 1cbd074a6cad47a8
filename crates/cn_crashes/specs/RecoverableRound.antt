-- The recoverable protocol of a round, in registers and readable objects: one object and two
-- registers for each node.
use Rattle.std.specs.Prelude.{ℕ, suc, Bool, true, false, cond, nat_eq, nat_lt, length, Option, None}
use Rattle.std.specs.Prelude.{Some}
use Rattle.cn_choice.specs.declared.team.Team.{Team}
use Rattle.cn_choice.specs.declared.team.Team.TheVariants.{A, B}
use Rattle.cn_proto.specs.Protocol.{ProtocolOfRounds, place_of}
use Rattle.cn_proto.specs.declared.place.Place.{Place}
use Rattle.cn_consensus.specs.Protocol.{Action, Protocol as ModelProtocol}
use Rattle.cn_consensus.specs.Protocol.Action.{Decide, ReadRegister, WriteRegister, ApplyOperation}
use Rattle.cn_consensus.specs.Protocol.Action.{ReadObject}
use Rattle.cn_solvable.specs.RoundProtocol.{register_of}

-- what a process does next at a place: write its value; look whether the object is in the start
-- state; if it is, peek at the register of team B if it is alone in team A; apply its operation;
-- look again; take the value of a team
pub data RecoverableStage : Type 0 where
  Write : RecoverableStage
  Look : RecoverableStage
  Peek : RecoverableStage
  Act : RecoverableStage
  Again : RecoverableStage
  Take : Team → RecoverableStage

-- at this place of its path with this value, or decided
pub data RecoverableLocal : Type 0 where
  Active : ℕ → Bool → RecoverableStage → RecoverableLocal
  Decided : Bool → RecoverableLocal

-- the stage after a look at the start state: lone says whether team A is one process alone, which
-- peeks
abbrev pub first_stage : Bool → Team → RecoverableStage
first_stage true A = Peek
first_stage true B = Act
first_stage false side = Act

-- from place i on with a value, on a path of this many places
abbrev pub onward : ℕ → ℕ → Bool → RecoverableLocal
onward places i z = cond (nat_lt (suc i) places) (Active (suc i) z Write) (Decided z)

-- onward with the value that a register holds, or in this local state if it holds none
abbrev pub onward_if : ℕ → ℕ → RecoverableLocal → Option Bool → RecoverableLocal
onward_if places i l None = l
onward_if places i l (Some z) = onward places i z

-- a round; the operation of each role; for each state of an object, which team moved first; and
-- whether team A is one process alone
pub record RecoverablePlan : Type 0 where
  pub round : ProtocolOfRounds
  pub operation : ℕ → ℕ
  pub judge : ℕ → Team
  pub lone : Bool

-- the action of a process that is at place i of this many with value x
abbrev pub stage_action : RecoverablePlan → ℕ → ℕ → Bool → RecoverableStage → Place
    → Action RecoverableLocal (Option Bool)
stage_action R places i x Write here =
    WriteRegister (register_of here.node here.team) (Some x) (Active i x Look)
stage_action R places i x Look here =
    ReadObject here.node (λ q. Active i x (cond (nat_eq q R.round.start)
    (first_stage R.lone here.team) (Take (R.judge q))))
stage_action R places i x Peek here =
    ReadRegister (register_of here.node B) (onward_if places i (Active i x Act))
stage_action R places i x Act here =
    ApplyOperation here.node (R.operation here.role) (λ r. Active i x Again)
stage_action R places i x Again here =
    ReadObject here.node (λ q. Active i x (Take (R.judge q)))
stage_action R places i x (Take side) here =
    ReadRegister (register_of here.node side) (onward_if places i (Active i x (Take side)))

-- the action of process p in this local state
abbrev pub local_action : RecoverablePlan → ℕ → RecoverableLocal
    → Action RecoverableLocal (Option Bool)
local_action R p (Active i x stage) =
    stage_action R (length (R.round.path p)) i x stage (place_of R.round p i)
local_action R p (Decided y) = Decide y

-- each process starts at its first place with its input, the registers are empty, and each object
-- is in the start state
abbrev pub recoverable_protocol : RecoverablePlan → ModelProtocol RecoverableLocal (Option Bool)
recoverable_protocol R = record {
  start = λ p x. Active 0 x Write;
  action = λ p l. local_action R p l;
  registers = λ i. None;
  objects = λ v. R.round.start;
}
