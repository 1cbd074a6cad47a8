-- A run: operations applied one after the other, from a state.
use Rattle.std.specs.Prelude.{ℕ, List, [], ◌∷◌}
use Rattle.cn_table.specs.TypeTable.{TypeTable, transition}

-- the response to each of the operations, in order
abbrev pub responses_along : TypeTable → ℕ → List ℕ → List ℕ
responses_along t state [] = []
responses_along t state (o ∷ os) =
    (transition t o state).0 ∷ responses_along t (transition t o state).1 os

-- the state after the last of them
abbrev pub state_after : TypeTable → ℕ → List ℕ → ℕ
state_after t state [] = state
state_after t state (o ∷ os) = state_after t (transition t o state).1 os

-- the run: the responses and the last state
abbrev pub run : TypeTable → ℕ → List ℕ → List ℕ × ℕ
run t state operations = (responses_along t state operations, state_after t state operations)
