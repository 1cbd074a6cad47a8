-- Two runs that are told of a choice, as runs of protocols in the model.
use Rattle.std.specs.Prelude.{◌≡◌, ℕ, ◌<◌, List, [], ◌∷◌, ◌++◌, map, replicate}
use Rattle.cn_table.specs.TypeTable.{TypeTable}
use Rattle.cn_choice.specs.RawChoices.{RawChoice}
use Rattle.cn_reasons.specs.declared.runs.Step.{Step}
use Rattle.cn_unread_reasons.specs.declared.play.PlayEnd.{PlayEnd}
use Rattle.cn_consensus.specs.Protocol.{Action, Protocol}
use Rattle.cn_consensus.specs.Protocol.Action.{Decide, ReadRegister, WriteRegister, ApplyOperation}
use Rattle.cn_consensus.specs.Protocol.Action.{ReadObject}
use Rattle.cn_consensus.specs.Configuration.{Configuration, after, decision}
use Rattle.cn_consensus.specs.Consensus.{IsSchedule}
use Rattle.cn_runs.specs.Plays.{PlayStep, TwoRuns, processes, responses_to, schedule_of}
use Rattle.cn_runs.specs.Plays.{states_along, steps_by}

-- the numbers of a step
abbrev pub numbers_of : Step → PlayStep
numbers_of s = record {
  process = s.process;
  operation = s.operation.0;
  response = s.response.0;
  state = s.state.0;
}

-- the two runs of a choice, with the process of their end
abbrev pub two_runs_to : RawChoice → List Step → List Step → PlayEnd → TwoRuns
two_runs_to c a_first b_first end = record {
  choice = c;
  a_first = map numbers_of a_first;
  b_first = map numbers_of b_first;
  process = end.process;
}

-- ---- protocols that make the steps of both runs

-- the action applies the operation to object i
abbrev pub Applies : {L V : Type 0} → ℕ → ℕ → Action L V → Type 0
Applies i o (Decide x) = ⊥
Applies i o (ReadRegister r k) = ⊥
Applies i o (WriteRegister r v l) = ⊥
Applies i o (ApplyOperation j operation k) = (j ≡ i) × (operation ≡ o)
Applies i o (ReadObject j k) = ⊥

-- the local state of a process in l behind an operation with this response
abbrev pub with_response : {L V : Type 0} → L → Action L V → ℕ → L
with_response l (Decide x) response = l
with_response l (ReadRegister r k) response = l
with_response l (WriteRegister r v m) response = l
with_response l (ApplyOperation j operation k) response = k response
with_response l (ReadObject j k) response = l

-- from its local state l, process j applies the operations of the steps to object i, one after the
-- other, if it gets their responses
abbrev pub Takes : {L V : Type 0} → Protocol L V → ℕ → ℕ → L → List PlayStep → Type 0
Takes P i j l [] = Unit {0}
Takes P i j l (s ∷ ss) = Applies i s.operation (P.action j l)
    × Takes P i j (with_response l (P.action j l) s.response) ss

-- each process takes its steps of both runs from the configuration
pub record TakeBoth {L V : Type 0} (P : Protocol L V) (i : ℕ) (d : Configuration L V)
    (p : TwoRuns) : Type 0 where
  pub a_first : (j : ℕ) → j < processes p → Takes P i j (d.locals j) (steps_by j p.a_first)
  pub b_first : (j : ℕ) → j < processes p → Takes P i j (d.locals j) (steps_by j p.b_first)

-- ---- what the model makes of a run

-- the steps of the run of n processes leave object i in the states that they tell
pub record IsMade {L V : Type 0} (t : ℕ → TypeTable) (P : Protocol L V) (i n : ℕ)
    (d : Configuration L V) (run : List PlayStep) : Type 0 where
  pub schedule : IsSchedule n (schedule_of run)
  pub states : states_along t P i d (schedule_of run) ≡ map (λ s. s.state) run

-- the process of the two runs decides the same behind both, if it goes on alone for so many steps
abbrev pub DecidesTheSame : {L V : Type 0} → (ℕ → TypeTable) → Protocol L V → Configuration L V
    → TwoRuns → ℕ → Type 0
DecidesTheSame t P d p steps =
    decision P (after t P d (schedule_of p.a_first ++ replicate steps p.process)) p.process
    ≡ decision P (after t P d (schedule_of p.b_first ++ replicate steps p.process)) p.process

-- both runs are made, and the process decides the same behind them, however long it goes on alone
pub record LooksTheSame {L V : Type 0} (t : ℕ → TypeTable) (P : Protocol L V) (i : ℕ)
    (d : Configuration L V) (p : TwoRuns) : Type 0 where
  pub a_first : IsMade t P i (processes p) d p.a_first
  pub b_first : IsMade t P i (processes p) d p.b_first
  pub same : (steps : ℕ) → DecidesTheSame t P d p steps

-- behind a run, the local state of each of n processes is the list of its responses
abbrev pub KeepsResponses : {V : Type 0} → (ℕ → TypeTable) → Protocol (List ℕ) V → ℕ
    → Configuration (List ℕ) V → List PlayStep → Type 0
KeepsResponses t P n d run =
    (j : ℕ) → j < n → (after t P d (schedule_of run)).locals j ≡ responses_to j run
