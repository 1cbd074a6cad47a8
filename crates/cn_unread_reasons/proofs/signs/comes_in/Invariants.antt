use Rattle.std.proofs.Common.{◌≢◌, ◌<◌, ℕ}
use Rattle.std.specs.Prelude.{IsBitSet}
use Rattle.cn_table.specs.TypeTable.{transition}
use Rattle.cn_unread_reasons.proofs.signs.comes_in.Given as goal

-- it comes in none of the states so far
abbrev pub invariant-loop-state : goal.invariant-loop-state
invariant-loop-state l = (q : ℕ) → q < l.state → IsBitSet l.fn.set q → (transition l.table l.fn.answer.operation.0 q).0 ≢ l.fn.answer.response.0
