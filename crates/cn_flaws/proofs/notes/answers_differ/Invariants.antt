use Rattle.std.proofs.Common.{◌≡◌, ◌<◌, ℕ}
use Rattle.cn_table.specs.TypeTable.{transition}
use Rattle.cn_flaws.proofs.notes.answers_differ.Given as goal

-- in each state so far the response is that of the first one
abbrev pub invariant-loop-state : goal.invariant-loop-state
invariant-loop-state l = (q : ℕ) → q < l.state → (transition l.table l.fn.operation.0 q).0 ≡ l.first.0
