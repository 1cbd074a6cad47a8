-- Runs of a choice, step by step.
use Rattle.std.specs.Prelude.{ℕ, ◌<◌, ◌≤◌, List, [], ◌∷◌, length, slice_index, All}
use Rattle.cn_table.specs.TypeTable.{TypeTable}
use Rattle.cn_choice.specs.Moves.{answer_of, next_of}
use Rattle.cn_choice.specs.RawChoices.{RawChoice}
use Rattle.cn_choice.specs.declared.limits.TheConstants.{MOST_PROCESSES}
use Rattle.cn_reasons.specs.declared.runs.Runs.{Runs}
use Rattle.cn_reasons.specs.declared.runs.Step.{Step}

-- the step of process p in a state
abbrev pub step_of : TypeTable → RawChoice → ℕ → ℕ → Step
step_of t c p state = record {
  process = p;
  operation = record { 0 = slice_index c.operations p };
  response = record { 0 = answer_of t c p state };
  state = record { 0 = next_of t c p state };
}

-- the steps of the processes of an order, one after the other, from a state
abbrev pub steps_of : TypeTable → RawChoice → ℕ → List ℕ → List Step
steps_of t c state [] = []
steps_of t c state (p ∷ ps) = step_of t c p state ∷ steps_of t c (next_of t c p state) ps

-- the runs of two orders from the start state
abbrev pub runs_of : TypeTable → RawChoice → List ℕ → List ℕ → Runs
runs_of t c alpha beta = record {
  a_first = record { items = steps_of t c c.state alpha };
  b_first = record { items = steps_of t c c.state beta };
}

-- at most MOST_PROCESSES of n processes
pub record IsShort (n : ℕ) (order : List ℕ) : Type 0 where
  pub known : All (λ p. p < n) order
  pub short : length order ≤ MOST_PROCESSES
