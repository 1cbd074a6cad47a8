-- The steps of processes and their crashes, in memory.
use Rattle.std.specs.Prelude.{ℕ, ◌+◌, ◌*◌, List, length, slice_index, slice_index_or, slice_set}
use Rattle.std.specs.Prelude.{Bool, true, false, nat_eq, nat_lt, if◌then◌else◌, Option, None, Some}
use Rattle.cn_table.specs.declared.elements.State.{State}
use Rattle.cn_choice.specs.declared.team.Team.{Team}
use Rattle.cn_choice.specs.declared.team.Team.TheVariants.{A, B}
use Rattle.cn_proto.specs.Plan.{protocol_of}
use Rattle.cn_proto.specs.Protocol.{place_of}
use Rattle.cn_proto.specs.declared.place.Place.{Place}
use Rattle.cn_lives.specs.Plans.{RecordingPlan, is_lone, judge}
use Rattle.cn_lives.specs.declared.local.Local.{Local}
use Rattle.cn_lives.specs.declared.local.Local.TheVariants.{Active, Decided}
use Rattle.cn_lives.specs.declared.local.Stage.{Stage}
use Rattle.cn_lives.specs.declared.local.Stage.TheVariants.{Write, Look, Peek, Act, Again, Take}

-- the local state of each process, what each register holds, the state of each object, and the
-- input of each process
pub record World : Type 0 where
  pub locals : List Local
  pub registers : List (Option ℕ)
  pub objects : List State
  pub inputs : List ℕ

-- the number of the register of a team at node v
abbrev pub register_of : ℕ → Team → ℕ
register_of v A = 2 * v
register_of v B = 2 * v + 1

-- ---- one step

-- the stage after a look at the start state: lone says whether team A is one process alone
abbrev pub first_stage : Bool → Team → Stage
first_stage true A = Peek
first_stage true B = Act
first_stage false side = Act

-- the stage after a look at state q
abbrev pub stage_seen : RecordingPlan → Team → ℕ → Stage
stage_seen p side q = if nat_eq q (protocol_of p.plan).start then first_stage (is_lone p) side
    else Take (judge p q)

-- a process goes on from place i, of this many, with the value that it took there: to its next
-- place, or from the root to its decision
abbrev pub onward : ℕ → ℕ → ℕ → Local
onward places i y = if nat_lt (i + 1) places then Active (i + 1) y Write else Decided y

-- it goes on with the value that a register holds, or in this local state if it holds none
abbrev pub onward_if : ℕ → ℕ → Local → Option ℕ → Local
onward_if places i l None = l
onward_if places i l (Some y) = onward places i y

-- the local state after an action of a process at place i of this many with this value: q is the
-- state of the object at the node, and held is what the registers of the teams hold there
abbrev pub local_after : RecordingPlan → ℕ → ℕ → ℕ → Stage → Place → ℕ → (Team → Option ℕ) → Local
local_after p places i x Write here q held = Active i x Look
local_after p places i x Look here q held = Active i x (stage_seen p here.team q)
local_after p places i x Peek here q held = onward_if places i (Active i x Act) (held B)
local_after p places i x Act here q held = Active i x Again
local_after p places i x Again here q held = Active i x (Take (judge p q))
local_after p places i x (Take side) here q held =
    onward_if places i (Active i x (Take side)) (held side)

-- the first action writes the register of the team
abbrev pub registers_after : ℕ → Stage → Place → List (Option ℕ) → List (Option ℕ)
registers_after x Write here registers =
    slice_set registers (register_of here.node here.team) (Some x)
registers_after x Look here registers = registers
registers_after x Peek here registers = registers
registers_after x Act here registers = registers
registers_after x Again here registers = registers
registers_after x (Take side) here registers = registers

-- what the registers of the teams hold at node v
abbrev pub held_at : List (Option ℕ) → ℕ → Team → Option ℕ
held_at registers v side = slice_index_or registers (register_of v side) None

-- the state of the object at node v
abbrev pub state_at : List State → ℕ → ℕ
state_at objects v = (slice_index_or objects v (record { 0 = 0 })).0

-- one action applies the operation of the role to the object
abbrev pub objects_after : RecordingPlan → Stage → Place → List State → List State
objects_after p Write here objects = objects
objects_after p Look here objects = objects
objects_after p Peek here objects = objects
objects_after p Act here objects = slice_set objects here.node
    (record { 0 = ((protocol_of p.plan).act here.role (state_at objects here.node)).1 })
objects_after p Again here objects = objects
objects_after p (Take side) here objects = objects

abbrev pub local_at : World → ℕ → Local
local_at w q = slice_index_or w.locals q (Decided 0)

-- the action of process q, which is at place i of its path with this value
abbrev pub after_action : RecordingPlan → ℕ → World → ℕ → ℕ → Stage → Place → World
after_action p q w i x stage here = record w {
  locals = slice_set w.locals q (local_after p (length ((protocol_of p.plan).path q)) i x stage here
      (state_at w.objects here.node) (held_at w.registers here.node));
  registers = registers_after x stage here w.registers;
  objects = objects_after p stage here w.objects;
}

-- the step of process q in this local state: a process that has decided takes no step
abbrev pub after_step_from : RecordingPlan → ℕ → World → Local → World
after_step_from p q w (Active i x stage) =
    after_action p q w i x stage (place_of (protocol_of p.plan) q i)
after_step_from p q w (Decided y) = w

-- the world after one atomic step of process q
abbrev pub after_step : RecordingPlan → ℕ → World → World
after_step p q w = after_step_from p q w (local_at w q)

-- the world after a crash of process q: it begins again with its input, at its first place, and the
-- registers and the objects stay as they are
abbrev pub after_crash : ℕ → World → World
after_crash q w =
    record w { locals = slice_set w.locals q (Active 0 (slice_index w.inputs q) Write) }
