use Rattle.std.proofs.Common.{◌<◌, ℕ, List}
use Rattle.cn_join_find.specs.Steps.{ShowsBehind, StandsAt}
use Rattle.cn_join_find.proofs.words.some_shown_step.Given as goal

-- no word that begins with an operation so far shows the pair
abbrev pub invariant-loop-operation : goal.invariant-loop-operation
invariant-loop-operation l = (items : List ℕ) → StandsAt l.views.cells l.fn.place items → (o : ℕ) → o < l.operation
    → ¬ ShowsBehind l.views.cells.table.now l.fn.start items l.views.asked l.fn.pair.response l.fn.pair.state o
