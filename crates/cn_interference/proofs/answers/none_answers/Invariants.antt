use Rattle.std.proofs.Common.{◌<◌, ℕ}
use Rattle.cn_interference.specs.Interference.{AnswersNothing}
use Rattle.cn_interference.proofs.answers.none_answers.Given as goal

-- no operation so far answers anything
abbrev pub invariant-loop-operation : goal.invariant-loop-operation
invariant-loop-operation l = (f : ℕ) → f < l.operation → AnswersNothing l.table f
