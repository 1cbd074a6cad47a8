-- Consensus among processes that may crash and come back: agreement, validity, and a bound on the
-- steps of each life.
use Rattle.std.specs.Prelude.{◌≡◌, ◌-◌, ◌*◌, ◌<◌, ◌≤◌, ◌⊎◌, ◌++◌, ℕ, List, Some, slice_get}
use Rattle.cn_proto.specs.Plan.{processes_of}
use Rattle.cn_crashes.specs.Execution.{NeverCrashes, steps_of}
use Rattle.cn_lives.specs.Plans.{RecordingPlan}
use Rattle.cn_lives.specs.Runs.{decision_at, world_after}
use Rattle.cn_lives.specs.declared.schedule.Event.{Event}
use Rattle.cn_life_laws.specs.Executions.{execution_of}

-- process q has decided y after these events
abbrev pub HasDecided : RecordingPlan → List ℕ → List Event → ℕ → ℕ → Type 0
HasDecided p inputs es q y = decision_at (world_after p inputs es) q ≡ Some y

-- what holds of a whole run by these events
pub record IsRecoverableConsensus (p : RecordingPlan) (inputs : List ℕ) (events : List Event)
    : Type 0 where
  -- no two decisions that are ever made differ, also not those of one process before and after a
  -- crash
  pub agreement : (es us vs : List Event) → events ≡ es ++ (us ++ vs) → (q r x y : ℕ)
      → q < processes_of p.plan → r < processes_of p.plan
      → HasDecided p inputs es q x → HasDecided p inputs (es ++ us) r y → x ≡ y
  -- each decision is the input of a process that has taken a step, or of the one that has decided
  pub validity : (es us : List Event) → events ≡ es ++ us → (q x : ℕ) → q < processes_of p.plan
      → HasDecided p inputs es q x
      → (r : ℕ) × (slice_get inputs r ≡ Some x) × ((r ≡ q) ⊎ (1 ≤ steps_of r (execution_of es)))
  -- a process that takes 6 (n - 1) steps without a crash of its own has decided
  pub wait_free : (es us vs : List Event) → events ≡ es ++ (us ++ vs) → (q : ℕ)
      → q < processes_of p.plan → NeverCrashes q (execution_of us)
      → 6 * (processes_of p.plan - 1) ≤ steps_of q (execution_of us)
      → (x : ℕ) × HasDecided p inputs (es ++ us) q x
