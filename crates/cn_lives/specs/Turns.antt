-- The turn of a process: where it is, and that all that it reads there exists.
use Rattle.std.specs.Prelude.{◌≡◌, ◌*◌, ◌<◌, ℕ, length}
use Rattle.cn_proto.specs.Plan.{processes_of, protocol_of}
use Rattle.cn_proto.specs.Protocol.{place_of}
use Rattle.cn_lives.specs.Plans.{RecordingPlan}
use Rattle.cn_lives.specs.Steps.{World, local_at, state_at}
use Rattle.cn_lives.specs.declared.local.Local.TheVariants.{Active}
use Rattle.cn_lives.specs.declared.turn.Turn.{Turn}

-- the turn of process q, which is at this place of its path with this value
pub record IsTurn (p : RecordingPlan) (w : World) (q : ℕ) (turn : Turn) : Type 0 where
  pub local : local_at w q ≡ Active turn.place turn.value turn.stage
  pub process : q < length w.locals
  pub here : turn.here ≡ place_of (protocol_of p.plan) q turn.place
  pub places : turn.places ≡ length ((protocol_of p.plan).path q)
  pub place : turn.place < turn.places
  pub node : turn.here.node < length w.objects
  pub registers : 2 * length w.objects ≡ length w.registers
  pub role : turn.here.role < processes_of p.plan
  pub state : state_at w.objects turn.here.node < length p.plan.table.states
