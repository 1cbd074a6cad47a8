-- The properties of every round of a plan.
use Rattle.std.specs.Prelude.{ℕ, ◌≡◌, ◌+◌, ◌*◌, ◌<◌, ◌≤◌, ◌↔◌, min, List, length, Option, Some}
use Rattle.std.specs.Prelude.{None, IsSome, slice_index_or}
use Rattle.cn_choice.specs.declared.team.Team.{Team}
use Rattle.cn_proto.specs.Protocol.{ProtocolOfRounds, place_of}
use Rattle.cn_proto.specs.Plan.{Plan, IsPlan, protocol_of, processes_of, nodes_of}
use Rattle.cn_proto.specs.Sound.{IsSound, IsPlace}
use Rattle.cn_proto.specs.Tournament.{team_of}
use Rattle.cn_agree.specs.declared.local.Stage.{Stage}
use Rattle.cn_agree.specs.declared.local.Stage.TheVariants.{Write, Apply, Read, Take}
use Rattle.cn_agree.specs.declared.local.Local.{Local}
use Rattle.cn_agree.specs.declared.local.Local.TheVariants.{NotBegun, Active, Decided}
use Rattle.cn_agree.specs.World.{World, fresh_node, local_at, input_at, register}
use Rattle.cn_agree.specs.Reached.{IsReached}
use Rattle.cn_agree.specs.Consensus.{IsParticipant, occurrences}

-- the decision in a local state, if there is one
abbrev pub decision_of : {V : Type 0} → Local V → Option V
decision_of NotBegun = None
decision_of (Active i x stage) = None
decision_of (Decided y) = Some y

-- the decision of process p
abbrev pub decision_at : {V : Type 0} → World V → ℕ → Option V
decision_at w p = decision_of (local_at w p)

abbrev pub value_of_team : {V : Type 0} → World V → Option Team → Option V
value_of_team w None = None
value_of_team w (Some team) = register (slice_index_or w.nodes 0 (fresh_node 0)) team

-- the value that the round has fixed: the value at the root in the register of the team that came
-- first there
abbrev pub fixed_value : {V : Type 0} → World V → Option V
fixed_value w = value_of_team w w.first

-- the number of the four actions of a place that are done
abbrev pub actions_done : Stage → ℕ
actions_done Write = 0
actions_done Apply = 1
actions_done (Read response) = 2
actions_done (Take response state) = 3

-- the number of steps that process p has taken, by its local state
abbrev pub steps_taken : {V : Type 0} → ProtocolOfRounds → ℕ → Local V → ℕ
steps_taken P p NotBegun = 0
steps_taken P p (Active i x stage) = 4 * i + actions_done stage
steps_taken P p (Decided y) = 4 * length (P.path p)

-- a process has applied its operation at the root
pub record IsAppliedAtRoot {V : Type 0} (P : ProtocolOfRounds) (n : ℕ) (w : World V) : Type 0 where
  pub process : ℕ
  pub place : ℕ
  pub is_place : IsPlace P n process place
  pub root : (place_of P process place).node ≡ 0
  pub applied : 4 * place + 2 ≤ steps_taken P process (local_at w process)

-- a round of this plan, after beginnings and the steps of this schedule
pub record IsRoundOf {V : Type 0} (plan : Plan) (schedule : List ℕ) (w : World V) : Type 0 where
  pub is_plan : IsPlan plan
  pub sound : IsSound (protocol_of plan) (processes_of plan) (nodes_of plan)
      (team_of (length plan.choice.a))
  pub reached : IsReached (protocol_of plan) (processes_of plan) (nodes_of plan) schedule w

-- a round of this plan
abbrev pub RunsBy : {V : Type 0} → Plan → World V → Type 0
RunsBy plan w = (schedule : List ℕ) × IsRoundOf plan schedule w

-- a round of some plan
abbrev pub IsRound : {V : Type 0} → World V → Type 0
IsRound w = (plan : Plan) × RunsBy plan w

-- one value is fixed, and decided in time
pub record KeepsConsensus {V : Type 0} (P : ProtocolOfRounds) (n : ℕ) (schedule : List ℕ)
    (w : World V) : Type 0 where
  -- each decision is the fixed value
  pub decisions : (p : ℕ) (x : V) → decision_at w p ≡ Some x → fixed_value w ≡ Some x
  -- the fixed value is one that a participant began with
  pub valid : (x : V) → fixed_value w ≡ Some x
      → (q : ℕ) × (q < n) × IsParticipant schedule q × (input_at w q ≡ Some x)
  -- the fixed value is there exactly from the first application at the root on
  pub since : IsSome (fixed_value w) ↔ IsAppliedAtRoot P n w
  -- a process has decided exactly when it occurs at least four times for each place of its path
  pub in_time : (p : ℕ) → p < n
      → IsSome (decision_at w p) ↔ (4 * length (P.path p) ≤ occurrences schedule p)
  -- the local state of a process tells how many steps it has taken
  pub steps : (p : ℕ) → p < n
      → steps_taken P p (local_at w p) ≡ min (occurrences schedule p) (4 * length (P.path p))
