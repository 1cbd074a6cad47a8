use Rattle.std.proofs.Common.{◌<◌, ℕ, List}
use Rattle.cn_join_find.specs.Steps.{EndsBehind, StandsAt}
use Rattle.cn_join_find.proofs.words.some_ends_step.Given as goal

-- no word that begins with an operation so far ends in the goal
abbrev pub invariant-loop-operation : goal.invariant-loop-operation
invariant-loop-operation l = (items : List ℕ) → StandsAt l.cells l.fn.place items → (o : ℕ) → o < l.operation → ¬ EndsBehind l.cells.table.now l.fn.start items l.fn.goal o
