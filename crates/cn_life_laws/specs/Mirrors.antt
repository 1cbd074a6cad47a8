-- Lives, and the configurations of the protocol of their plan.
use Rattle.std.specs.Prelude.{◌≡◌, ◌<◌, ℕ, List, Bool, Option, slice_index, option_map}
use Rattle.cn_choice.specs.Canonical.{raw_choice_of}
use Rattle.cn_choice.specs.declared.team.Team.{Team}
use Rattle.cn_proto.specs.Plan.{nodes_of, processes_of, protocol_of}
use Rattle.cn_consensus.specs.Configuration.{Configuration, initial}
use Rattle.cn_consensus.specs.Protocol.{Protocol}
use Rattle.cn_consensus.specs.Types.{all_of}
use Rattle.cn_solvable.specs.RoundProtocol.{register_of}
use Rattle.cn_crashes.specs.Execution.{after_execution}
use Rattle.cn_crashes.specs.RecoverableRound.{RecoverableLocal, RecoverablePlan}
use Rattle.cn_crashes.specs.RecoverableRound.{RecoverableStage}
use Rattle.cn_crashes.specs.RecoverableRound.{recoverable_protocol}
use Rattle.cn_crashes.specs.RecoverableRound.RecoverableLocal.{Active as ActiveLocal}
use Rattle.cn_crashes.specs.RecoverableRound.RecoverableLocal.{Decided as DecidedLocal}
use Rattle.cn_crashes.specs.RecoverableRound.RecoverableStage.{Write as WriteStage}
use Rattle.cn_crashes.specs.RecoverableRound.RecoverableStage.{Look as LookStage}
use Rattle.cn_crashes.specs.RecoverableRound.RecoverableStage.{Peek as PeekStage, Act as ActStage}
use Rattle.cn_crashes.specs.RecoverableRound.RecoverableStage.{Again as AgainStage}
use Rattle.cn_crashes.specs.RecoverableRound.RecoverableStage.{Take as TakeStage}
use Rattle.cn_lives.specs.Plans.{RecordingPlan, is_lone, judge}
use Rattle.cn_lives.specs.Steps.{World, held_at, local_at, state_at}
use Rattle.cn_lives.specs.declared.local.Local.{Local}
use Rattle.cn_lives.specs.declared.local.Local.TheVariants.{Active, Decided}
use Rattle.cn_lives.specs.declared.local.Stage.{Stage}
use Rattle.cn_lives.specs.declared.local.Stage.TheVariants.{Write, Look, Peek, Act, Again, Take}
use Rattle.cn_lives.specs.declared.schedule.Event.{Event}
use Rattle.cn_life_laws.specs.Executions.{execution_of}

-- the plan as functions
abbrev pub recoverable_plan : RecordingPlan → RecoverablePlan
recoverable_plan p = record {
  round = protocol_of p.plan;
  operation = λ role. slice_index (raw_choice_of p.plan.choice).operations role;
  judge = λ q. judge p q;
  lone = is_lone p;
}

-- the protocol of a plan
abbrev pub lives_protocol : RecordingPlan → Protocol RecoverableLocal (Option Bool)
lives_protocol p = recoverable_protocol (recoverable_plan p)

abbrev pub stage_of : Stage → RecoverableStage
stage_of Write = WriteStage
stage_of Look = LookStage
stage_of Peek = PeekStage
stage_of Act = ActStage
stage_of Again = AgainStage
stage_of (Take side) = TakeStage side

-- a local state of the protocol, where f x stands for the value x
abbrev pub local_of : (ℕ → Bool) → Local → RecoverableLocal
local_of f (Active i x stage) = ActiveLocal i (f x) (stage_of stage)
local_of f (Decided y) = DecidedLocal (f y)

-- the configuration has the local states, the objects and the registers of the lives, where f x
-- stands for the value x
pub record Mirrors (p : RecordingPlan) (f : ℕ → Bool) (w : World)
    (c : Configuration RecoverableLocal (Option Bool)) : Type 0 where
  pub local : (q : ℕ) → q < processes_of p.plan → c.locals q ≡ local_of f (local_at w q)
  pub state : (v : ℕ) → v < nodes_of p.plan → c.objects v ≡ state_at w.objects v
  pub held : (v : ℕ) → v < nodes_of p.plan → (side : Team)
      → c.registers (register_of v side) ≡ option_map f (held_at w.registers v side)

-- the inputs of the protocol, where f x stands for the value x
abbrev pub inputs_of : (ℕ → Bool) → List ℕ → ℕ → Bool
inputs_of f inputs q = f (slice_index inputs q)

-- the configuration of the protocol of a plan after a schedule, where f x stands for the value x
abbrev pub configuration_after : RecordingPlan → (ℕ → Bool) → List ℕ → List Event
    → Configuration RecoverableLocal (Option Bool)
configuration_after p f inputs es =
    after_execution (all_of p.plan.table) (lives_protocol p) (inputs_of f inputs)
    (initial (lives_protocol p) (inputs_of f inputs)) (execution_of es)
