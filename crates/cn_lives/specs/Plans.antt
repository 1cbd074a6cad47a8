-- The plan of a recording witness: of its states alone a process tells which team came first.
use Rattle.std.specs.Prelude.{◌≡◌, ◌<◌, ◌↔◌, ◌⊎◌, ℕ, IsBitSet, List, length, nat_eq}
use Rattle.std.specs.Prelude.{Result, Ok, Err}
use Rattle.std.specs.Prelude.{Option, None, Some}
use Rattle.std.specs.Prelude.{Bool, slice_index_or}
use Rattle.cn_table.specs.TypeTable.{TypeTable}
use Rattle.cn_choice.specs.Canonical.{Choice, raw_choice_of}
use Rattle.cn_choice.specs.Live.{live_choices}
use Rattle.cn_choice.specs.declared.team.Team.{Team}
use Rattle.cn_choice.specs.declared.team.Team.TheVariants.{A, B}
use Rattle.cn_outcomes.specs.LeftStates.{LeavesIn}
use Rattle.cn_finding.specs.Evidence.{IsFirst}
use Rattle.cn_proto.specs.Plan.{IsPlan, Plan, processes_of}
use Rattle.cn_recover.specs.Recording.{IsRecording, IsRecordingWitness}
use Rattle.cn_lives.specs.declared.fault.RecordingFault.{RecordingFault}
use Rattle.cn_lives.specs.declared.fault.RecordingFault.TheVariants.{NotRecording, OutOfMemory}

-- the plan of the witness, and for each state the team that came first where it is read
pub record RecordingPlan : Type 0 where
  pub plan : Plan
  pub first_teams : List Team

-- the plan of a recording witness: team A came first in the states that orders of team A leave, and
-- team B in the others, of which the start state is one
pub record IsRecordingPlan (p : RecordingPlan) : Type 0 where
  pub is_plan : IsPlan p.plan
  pub recording : IsRecordingWitness p.plan.table (raw_choice_of p.plan.choice)
  pub teams_are : length p.first_teams ≡ length p.plan.table.states
  pub left : (q : ℕ) → q < length p.plan.table.states
      → (slice_index_or p.first_teams q B ≡ A)
      ↔ LeavesIn p.plan.table (raw_choice_of p.plan.choice) A q
  pub home : slice_index_or p.first_teams p.plan.choice.state B ≡ B

-- the team that came first at a node, by the state of its object
abbrev pub judge : RecordingPlan → ℕ → Team
judge p q = slice_index_or p.first_teams q B

-- whether team A is one process alone
abbrev pub is_lone : RecordingPlan → Bool
is_lone p = nat_eq (length p.plan.choice.a) 1

-- for each of this many states, whether it is in the set: team A if it is, else team B
pub record AreTeamsOf (set states : ℕ) (teams : List Team) : Type 0 where
  pub count : length teams ≡ states
  pub each : (q : ℕ) → q < states → (slice_index_or teams q B ≡ A) ↔ IsBitSet set q

-- the same choice with the teams exchanged
abbrev pub exchanged : Choice → Choice
exchanged c = record { state = c.state; a = c.b; b = c.a }

-- d is c; or if an order that begins in team A leaves the start state, it is c with the teams
-- exchanged
abbrev pub IsHomeForm : TypeTable → Choice → Choice → Type 0
IsHomeForm t c d = ((¬ LeavesIn t (raw_choice_of c) A c.state) × (d ≡ c))
    ⊎ (LeavesIn t (raw_choice_of c) A c.state × (d ≡ exchanged c))

-- a plan of the choice, perhaps with the teams exchanged, exactly for a recording witness; or
-- memory ran out
abbrev pub IsRecordingPlanned : TypeTable → Choice → Result RecordingPlan RecordingFault → Type 0
IsRecordingPlanned t c (Ok p) =
    IsRecordingWitness t (raw_choice_of c) × (p.plan.table ≡ t) × IsHomeForm t c p.plan.choice
IsRecordingPlanned t c (Err NotRecording) = ¬ IsRecordingWitness t (raw_choice_of c)
IsRecordingPlanned t c (Err OutOfMemory) = Unit {0}

-- the plan of the first recording witness for n processes among the live canonical choices, exactly
-- if the type is n-recording
abbrev pub IsFirstPlan : TypeTable → ℕ → Option RecordingPlan → Type 0
IsFirstPlan t n None = ¬ IsRecording t n
IsFirstPlan t n (Some p) = IsRecordingPlan p × (p.plan.table ≡ t) × (processes_of p.plan ≡ n)
    × ((w : Choice) × IsFirst (IsRecordingWitness t) (live_choices t n) w
    × IsHomeForm t w p.plan.choice)
