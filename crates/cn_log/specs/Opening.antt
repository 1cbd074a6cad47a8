-- The opening of a log, and its events.
use Rattle.std.specs.Prelude.{ℕ, ◌≤◌, ◌<◌, List, length}
use Rattle.cn_table.specs.TypeTable.{TypeTable}
use Rattle.cn_proto.specs.Plan.{Plan, IsPlan, protocol_of, processes_of, nodes_of}
use Rattle.cn_agree.specs.World.{World as RoundWorld}
use Rattle.cn_agree.specs.Reached.{first_world}
use Rattle.cn_log.specs.declared.batch.Batch.{Batch}
use Rattle.cn_log.specs.declared.event.Event.{Event}
use Rattle.cn_log.specs.declared.limits.TheConstants.{MOST_SLOTS}
use Rattle.cn_log.specs.Consensus.{consensus_by}
use Rattle.cn_log.specs.Log.{Setting}

-- the plan of the rounds, the object that the log serves, its start state, and the number of slots
pub record Opening : Type 0 where
  pub plan : Plan
  pub object : TypeTable
  pub start : ℕ
  pub capacity : ℕ

abbrev pub opening_of : Plan → TypeTable → ℕ → ℕ → Opening
opening_of plan object start capacity =
    record { plan = plan; object = object; start = start; capacity = capacity }

-- the opening, and the events since
pub record Log : Type 0 where
  pub opening : Opening
  pub schedule : List Event

-- the setting of a log of this opening, with the rounds of its plan
abbrev pub setting_of : Opening → Setting (RoundWorld Batch)
setting_of o = record {
  consensus = consensus_by (protocol_of o.plan);
  untouched = first_world (protocol_of o.plan) (processes_of o.plan) (nodes_of o.plan);
  processes = processes_of o.plan;
  capacity = o.capacity;
  object = o.object;
  start = o.start;
}

abbrev pub setting : Log → Setting (RoundWorld Batch)
setting c = setting_of c.opening

-- the plan is a plan, the start state is one of the object's, and there are 1 to MOST_SLOTS slots
pub record IsOpening (o : Opening) : Type 0 where
  pub plan : IsPlan o.plan
  pub start : o.start < length o.object.states
  pub some : 1 ≤ o.capacity
  pub few : o.capacity ≤ MOST_SLOTS
