-- The decisions after a schedule, with all processes begun, and the faults of inputs and schedules.
use Rattle.std.specs.Prelude.{ℕ, List, length, map, replicate, nat_le, nat_eq, if◌then◌else◌}
use Rattle.std.specs.Prelude.{Option, Some, None, option_map, position}
use Rattle.cn_proto.specs.Protocol.{ProtocolOfRounds}
use Rattle.cn_proto.specs.Plan.{Plan, protocol_of, nodes_of}
use Rattle.cn_agree.specs.declared.local.Stage.TheVariants.{Write}
use Rattle.cn_agree.specs.declared.local.Local.TheVariants.{Active}
use Rattle.cn_agree.specs.declared.fault.ScheduleFault.{ScheduleFault}
use Rattle.cn_agree.specs.declared.fault.ScheduleFault.TheVariants.{InputCount, NoSuchProcess}
use Rattle.cn_agree.specs.World.{World, fresh_node}
use Rattle.cn_agree.specs.Steps.{after_schedule}
use Rattle.cn_agree.specs.Rounds.{decision_of}

-- for each process its decision, if it has one
pub record Decided : Type 0 where
  pub decisions : List (Option ℕ)

-- each process has begun with its input, and none has taken a step
abbrev pub all_begun : {V : Type 0} → ProtocolOfRounds → ℕ → List V → World V
all_begun P nodes inputs = record {
  nodes = replicate nodes (fresh_node P.start);
  locals = map (λ x. Active 0 x Write) inputs;
  inputs = map (λ x. Some x) inputs;
  first = None;
}

-- the decision of each process of a world
abbrev pub decisions_of : {V : Type 0} → World V → List (Option V)
decisions_of w = map decision_of w.locals

-- the decision of each process after this schedule of the plan
abbrev pub decisions_after : {V : Type 0} → Plan → List V → List ℕ → List (Option V)
decisions_after plan inputs schedule = decisions_of (after_schedule (protocol_of plan) schedule
    (all_begun (protocol_of plan) (nodes_of plan) inputs))

-- the first place of the schedule that names none of n processes
abbrev pub process_fault : ℕ → List ℕ → Option ScheduleFault
process_fault n schedule =
    option_map (λ place. NoSuchProcess place) (position (λ p. nat_le n p) schedule)

-- the first fault of inputs and a schedule for n processes
abbrev pub schedule_fault : {V : Type 0} → ℕ → List V → List ℕ → Option ScheduleFault
schedule_fault n inputs schedule =
    if nat_eq (length inputs) n then process_fault n schedule else Some InputCount
